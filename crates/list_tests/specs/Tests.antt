-- Document 01, "Why each operation says no": the tests of a list of passes, and why decorrelation and
-- analysis refuse it (X5). Assumes nothing.
use Rattle.std.specs.Prelude.{Bool, cond, List, ℕ, ltb}
use Rattle.std.specs.List.{list_all}
use Rattle.answers.specs.Limits.{max_elements, max_passes}
use Rattle.passes.specs.Terms.{term_of, is_valid}
use Rattle.passes.specs.declared.DecorrPass.{DecorrPass}

-- a pass with a valid term
abbrev pub valid_pass : DecorrPass → Bool
valid_pass p = is_valid (term_of p.term)

-- "Passes are well-made when every term is valid" (M2)
abbrev pub all_valid : List DecorrPass → Bool
all_valid passes = list_all valid_pass passes

-- "5, over 262,144 elements; 9, over 16 passes; 7, an invalid term in the list" (X5), by whether
-- all are valid and how many there are of each; 0 for none
unfoldable pub list_number : Bool → ℕ → ℕ → ℕ
list_number valid passes elements =
    cond (ltb max_elements elements) 5 (cond (ltb max_passes passes) 9 (cond valid 0 7))
