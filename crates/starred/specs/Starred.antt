-- Document 01, "Proved cases (*) and others": the starred cases, group by group (C11).
-- Assumes nothing.
use Rattle.std.specs.Prelude.{List, [], ◌∷◌, ℕ, ℤ, pos}
use Rattle.logpack.specs.Reach.{log_word_refusal, log_word_told}
use Rattle.medians.specs.Adaptation.{up, down}
use Rattle.weights.specs.Weights.{predict, updated, updated_clip}
use Rattle.passes.specs.Making.{Made, made}
use Rattle.passes.specs.Run.{Run, passed}
use Rattle.passes.specs.declared.Direction.TheVariants.{Decorrelation}
use Rattle.wvpair_text.specs.Starred.{first_input, first_text, second_input, second_text}
use Rattle.wvpair_text.specs.Text.{wvpair_text}
use Rattle.starred.specs.Row.{Row, ◌gives◌, minus}

-- what the log word step answers: its refusal, 0 where there is none, and the value
abbrev pub expanded : ℤ → ℕ × ℤ
expanded w = (log_word_refusal w, log_word_told w)

-- "Log words 0, 256, -256, 2304, 8191 .. give 0, 1, -1, 256, 2143289344" (C1); document 02, §7
-- (Q7.5): "The 8192 and -32768 cases become refusals"
abbrev pub log_words : List Row
log_words =
    (expanded (pos 0) gives (0, pos 0))
    ∷ (expanded (pos 256) gives (0, pos 1))
    ∷ (expanded (minus 256) gives (0, minus 1))
    ∷ (expanded (pos 2304) gives (0, pos 256))
    ∷ (expanded (pos 8191) gives (0, pos 2143289344))
    ∷ (expanded (pos 8192) gives (17, pos 0))
    ∷ (expanded (minus 32768) gives (17, pos 0))
    ∷ []

-- "Median 0 at d = 128: up 5; 2 down 0; 1 down 1; 4294967295 up stays" (C2)
abbrev pub medians : List Row
medians =
    (up 128 0 gives 5) ∷ (down 128 2 gives 0) ∷ (down 128 1 gives 1) ∷ (up 128 4294967295 gives 4294967295) ∷ []

-- "Prediction at weight 1024 of 5 is 5; -512 of 1 is 0; -512 of 3 is -1" (C3)
abbrev pub predictions : List Row
predictions =
    (predict (pos 1024) (pos 5) gives pos 5)
    ∷ (predict (minus 512) (pos 1) gives pos 0)
    ∷ (predict (minus 512) (pos 3) gives minus 1)
    ∷ []

-- "Cross weight 1022, delta 7, equal signs: 1024; an uncut term: 1029" (C4). Equal signs are those
-- of source and residual.
abbrev pub weights : List Row
weights =
    (updated_clip (pos 1022) (pos 7) (pos 1) (pos 1) gives pos 1024)
    ∷ (updated_clip (pos 1022) (pos 7) (minus 1) (minus 1) gives pos 1024)
    ∷ (updated (pos 1022) (pos 7) (pos 1) (pos 1) gives pos 1029)
    ∷ (updated (pos 1022) (pos 7) (minus 1) (minus 1) gives pos 1029)
    ∷ []

-- "Term 18, weights 1024, delta 2, seeds A 10, 4 and B 1, -2"
abbrev pub pass18 : Made
pass18 = made (pos 18) (pos 2) (pos 1024) (pos 1024) (pos 10 ∷ pos 4 ∷ []) (pos 1 ∷ minus 2 ∷ [])

-- "residuals 1, -1"
abbrev pub run18 : Run
run18 = passed Decorrelation pass18.pass (pos 1 ∷ minus 1 ∷ [])

-- ": samples 14, 1; weights 1026, 1022" (C5)
abbrev pub term18 : List Row
term18 =
    (pass18.refusal gives 0)
    ∷ (run18.buffer gives (pos 14 ∷ pos 1 ∷ []))
    ∷ (run18.pass.weight_a gives pos 1026)
    ∷ (run18.pass.weight_b gives pos 1022)
    ∷ []

-- `wvpair`: what the two inputs print (C8, C9)
abbrev pub printed : List Row
printed = (wvpair_text first_input gives first_text) ∷ (wvpair_text second_input gives second_text) ∷ []

-- the table
abbrev pub starred : List (List Row)
starred = log_words ∷ medians ∷ predictions ∷ weights ∷ term18 ∷ printed ∷ []
