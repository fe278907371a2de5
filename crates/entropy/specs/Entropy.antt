-- Document 01, "Entropy": what an entropy payload holds.
-- Assumes nothing.
use Rattle.std.specs.Prelude.{ℕ, suc, Bool, false, cond, ◌||◌, List, [], ◌∷◌, eqb, ℤ, pos, length, get_or, drop}
use Rattle.answers.specs.Guard.{or_else, unless_refused}
use Rattle.little_endian.specs.LittleEndian.{signed_word}
use Rattle.logpack.specs.LogWord.{log_word}
use Rattle.logpack.specs.Reach.{out_of_reach}
use Rattle.entropy.specs.declared.EntropyInfo.{EntropyInfo}

-- document 01, "Entropy" (E1): the signed little-endian 16-bit log word at byte i
abbrev pub word_at : List ℕ → ℕ → ℤ
word_at bytes i = signed_word (get_or bytes i 0) (get_or bytes (suc i) 0)

-- three of them, expanded: a set of medians
unfoldable pub word_set : List ℕ → List ℤ
word_set bytes = log_word (word_at bytes 0) ∷ log_word (word_at bytes 2) ∷ log_word (word_at bytes 4) ∷ []

-- document 02, §7 (Q7.2): one of a set's three log words is out of reach
abbrev pub set_out_of_reach : List ℕ → Bool
set_out_of_reach bytes = out_of_reach (word_at bytes 0) || out_of_reach (word_at bytes 2) || out_of_reach (word_at bytes 4)

-- a set of zeros
abbrev pub zero_words : List ℤ
zero_words = pos 0 ∷ pos 0 ∷ pos 0 ∷ []

-- "6 bytes are mono": there is no right set
abbrev pub mono_info : List ℕ → EntropyInfo
mono_info payload = record { medians_left = word_set payload; medians_right = zero_words }

-- "12 stereo": "the right set is the part from byte 6" (E2)
abbrev pub stereo_info : List ℕ → EntropyInfo
stereo_info payload = record { medians_left = word_set payload; medians_right = word_set (drop 6 payload) }

-- a payload that is refused tells of no set
abbrev pub no_info : EntropyInfo
no_info = record { medians_left = zero_words; medians_right = zero_words }

-- document 02, §2 (Q2.1): "The length alone now tells mono from stereo"
unfoldable pub is_mono : List ℕ → Bool
is_mono payload = eqb (length payload) 6

-- document 02, §7 (Q7.2): one of a payload's log words is out of reach, three of a mono payload and
-- six of a stereo one
abbrev pub past_reach : List ℕ → Bool
past_reach payload = set_out_of_reach payload || cond (is_mono payload) false (set_out_of_reach (drop 6 payload))

-- document 01, "Why each operation says no" (X1): 1, length not 6 or 12
abbrev pub length_refusal : List ℕ → ℕ
length_refusal payload = cond (eqb (length payload) 6 || eqb (length payload) 12) 0 1

-- document 02, §7 (Q7.2): "17 .. after 1"; 0 means accepted
unfoldable pub entropy_refusal : List ℕ → ℕ
entropy_refusal payload = or_else (length_refusal payload) (cond (past_reach payload) 17 0)

-- document 01, "Entropy" (E1): "6 bytes are mono, 12 stereo"
unfoldable pub entropy_info : List ℕ → EntropyInfo
entropy_info payload =
    unless_refused (entropy_refusal payload) (λ number. no_info) (cond (is_mono payload) (mono_info payload) (stereo_info payload))
