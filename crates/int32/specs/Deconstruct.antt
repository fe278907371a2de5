-- Document 02 §6: what the way back answers, and what samples and literal storage then hold.
-- Assumes nothing.
use Rattle.std.specs.Prelude.{Bool, true, cond, ◌&&◌, List, [], ◌∷◌, ◌++◌, map, ℕ, ◌*◌, ltb, ℤ, length}
use Rattle.std.specs.Prelude.{Result, Ok, Err}
use Rattle.answers.specs.Guard.{or_else, unless_refused}
use Rattle.answers.specs.Numbers.{number_of}
use Rattle.answers.specs.declared.Refusal.{Refusal}
use Rattle.overlay.specs.Overlay.{overlay}
use Rattle.bits.specs.Bits.{low}
use Rattle.bits.specs.Laid.{bytes_holding}
use Rattle.int32_sample.specs.Sample.{low_bits, above}
use Rattle.int32_sample.specs.Setting.{Setting, width, reinsertable}
use Rattle.int32.specs.declared.Int32Info.{Int32Info}
use Rattle.int32.specs.Info.{info_refusal, setting_of}

-- every sample may have been made by the setting (Q6.4)
unfoldable pub all_reinsertable : Setting → List ℤ → Bool
all_reinsertable s [] = true
all_reinsertable s (y ∷ ys) = reinsertable s y && all_reinsertable s ys

-- "takes redundancy out": each sample shifted right by as many bits as the setting put in (Q6.3)
abbrev pub freed : Int32Info → List ℤ → List ℤ
freed info samples = map (above (width (setting_of info))) samples

-- "and writes the literal bits": the low bits of each sample, low bit first (Q6.3)
unfoldable pub literal_of : ℕ → List ℤ → List Bool
literal_of sent [] = []
literal_of sent (y ∷ ys) = low sent (low_bits sent y) ++ literal_of sent ys

-- the refusal's number (0: accepted), literal bits written; the samples, and the lent storage
pub record DeconstructTold : Type 0 where
  pub refusal : ℕ
  pub bits : ℕ
  pub samples : List ℤ
  pub literal : List ℕ

-- what the entry's answer tells, with both lists as they are left; a refusal tells of no bit written
abbrev pub view_deconstruct : Result ℕ Refusal → List ℤ → List ℕ → DeconstructTold
view_deconstruct (Ok bits) samples literal =
    record { refusal = 0; bits = bits; samples = samples; literal = literal }
view_deconstruct (Err refusal) samples literal =
    record { refusal = number_of refusal; bits = 0; samples = samples; literal = literal }

-- 15 and 5, "a short lent buffer 11": under 4 bytes a sample; "16, no sample reinserts to this value,
-- after 11" (Q6.6)
unfoldable pub deconstruct_refusal : Int32Info → List ℤ → ℕ → ℕ
deconstruct_refusal info samples room =
    or_else (info_refusal info (length samples))
    (cond (ltb room (4 * length samples)) 11 (cond (all_reinsertable (setting_of info) samples) 0 16))

-- "a refusal alters nothing"
abbrev pub refuse_deconstruct : List ℤ → List ℕ → ℕ → DeconstructTold
refuse_deconstruct samples literal number =
    record { refusal = number; bits = 0; samples = samples; literal = literal }

-- the samples without both kinds of bits, and the literal ones from the first bit of the storage on;
-- "spare bits of the last literal byte are 0", and the bytes after it are kept (Q6.3)
abbrev pub tell_deconstruct : Int32Info → List ℤ → List ℕ → DeconstructTold
tell_deconstruct info samples literal =
    let sent = info.sent_bits in
    record {
      refusal = 0;
      bits = length samples * sent;
      samples = map (above sent) (freed info samples);
      literal = overlay literal 0 (bytes_holding (literal_of sent (freed info samples)));
    }

-- what the way back answers
unfoldable pub deconstruct_entry : Int32Info → List ℤ → List ℕ → DeconstructTold
deconstruct_entry info samples literal =
    unless_refused (deconstruct_refusal info samples (length literal)) (refuse_deconstruct samples literal)
    (tell_deconstruct info samples literal)
