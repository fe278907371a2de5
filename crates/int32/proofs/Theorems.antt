-- The theorems of document 02 §6 over the definitions of the two entries.
-- Assumes nothing.
use mathlib.Core.Path.{◌≡◌, sym, ap, ap₂, ◌∙◌}
use mathlib.Core.Bool.{Bool}
use mathlib.Core.List.{List, [], ◌++◌, map, append_assoc}
use Prim.Native.Nat.{ℕ, ◌+◌, ◌-◌, ◌*◌, ◌/◌, ◌≤◌}
use native.Mathlib.Omega.{arith}
use lib.IntN.{ℤ}
use lib.ListN.{length, length-map, take, length-append}
use Rattle.overlay.specs.Overlay.{overlay}
use Rattle.overlay.proofs.OverlayLaws.{overlay_take}
use Rattle.bits.specs.Bits.{low, bits_of}
use Rattle.bits.specs.Laid.{bytes_holding}
use Rattle.bits.proofs.LaidLaws.{bits_append, bits_holding, length_holding}
use Rattle.int32_sample.specs.Sample.{above}
use Rattle.int32_sample.specs.Setting.{Setting, width, reinsert}
use Rattle.int32.specs.declared.Int32Info.{Int32Info}
use Rattle.int32.specs.Info.{Samples32, setting_of}
use Rattle.int32.specs.Reassemble.{reassembled, reassemble_refusal, reassemble_entry}
use Rattle.int32.specs.Deconstruct.{DeconstructTold, freed, literal_of, deconstruct_refusal}
use Rattle.int32.specs.Deconstruct.{tell_deconstruct}
use Rattle.int32.specs.Wide.{written, TakenOutPutBack, NoTwoRecordingsAlike}
use Rattle.int32.proofs.InfoLaws.{info_none, info_width}
use Rattle.int32.proofs.ReassembleLaws.{reassemble_none, reassemble_accepted}
use Rattle.int32.proofs.DeconstructLaws.{Divisible, divisible, deconstruct_accepted}
use Rattle.int32.proofs.DeconstructLaws.{deconstruct_number}
use Rattle.int32.proofs.WideLaws.{literal-length, freed-fit, appended-back, reinserted_back}

-- ---- taken out, then put back

module _ (info : Int32Info) (samples : List ℤ) (storage more : List ℕ) (h : Samples32 samples)
    (d : Divisible info samples (length storage)) where
  abbrev s : Setting
  s = setting_of info

  abbrev sent : ℕ
  sent = info.sent_bits

  abbrev n : ℕ
  n = length samples

  abbrev zs : List ℤ
  zs = freed info samples

  abbrev bits : List Bool
  bits = literal_of sent zs

  abbrev told : DeconstructTold
  told = tell_deconstruct info samples storage

  bits-length : length bits ≡ n * sent
  bits-length = literal-length sent zs ∙ ap (λ (m : ℕ). m * sent) (length-map samples (above (width s)))

  bytes : written told ≡ bytes_holding bits
  bytes =
      ap (λ (m : ℕ). take ((m + 7) / 8) (overlay storage 0 (bytes_holding bits))) (sym bits-length)
      ∙ ap (λ (m : ℕ). take m (overlay storage 0 (bytes_holding bits))) (sym (length_holding bits))
      ∙ overlay_take storage (bytes_holding bits)

  read_back_lem : reassembled info (bits_of (written told ++ more)) told.samples ≡ samples
  read_back_lem =
      let spare = low (8 * ((length bits + 7) / 8) - length bits) 0 in
      let b : bits_of (written told ++ more) ≡ bits ++ (spare ++ bits_of more) =
      ap (λ (x : List ℕ). bits_of (x ++ more)) bytes ∙ bits_append (bytes_holding bits) more
      ∙ ap (λ (x : List Bool). x ++ bits_of more) (bits_holding bits)
      ∙ append_assoc bits spare (bits_of more) in
      ap (λ (x : List Bool). reassembled info x told.samples) b
      ∙ ap (map (reinsert s))
      (appended-back sent zs (spare ++ bits_of more) d.fields.sent (freed-fit (width s) samples h))
      ∙ reinserted_back s samples (info_width info d.fields) h d.images

  short-length : length told.samples ≡ n
  short-length = length-map zs (above sent) ∙ length-map samples (above (width s))

  room : n * sent ≤ 8 * length (written told ++ more)
  room =
      let l : length (written told) ≡ (n * sent + 7) / 8 =
      ap length bytes ∙ length_holding bits ∙ ap (λ (m : ℕ). (m + 7) / 8) bits-length in
      omega (arith, length-append (written told) more, l)

  pub read_again : reassemble_entry info told.samples (written told ++ more)
      ≡ record { refusal = 0; bits = n * sent; samples = samples }
  read_again =
      let none : reassemble_refusal info (length told.samples) (length (written told ++ more)) ≡ 0 =
      ap (λ (m : ℕ). reassemble_refusal info m (length (written told ++ more))) short-length
      ∙ sym (reassemble_none info n (length (written told ++ more))
      (sym (info_none info n d.fields d.few)) room) in
      reassemble_accepted info told.samples (written told ++ more) none
      ∙ ap₂ (λ (m : ℕ) (x : List ℤ). record {
        refusal = 0;
        bits = m * sent;
        samples = x;
      }) short-length read_back_lem

pub taken_out-put_back : TakenOutPutBack
taken_out-put_back info samples storage more h e =
    let z : deconstruct_refusal info samples (length storage) ≡ 0 =
    sym (deconstruct_number info samples storage) ∙ e in
    let d = divisible info samples (length storage) z in
    rw (deconstruct_accepted info samples storage z) (read_again info samples storage more h d)

pub no_two-recordings-alike : NoTwoRecordingsAlike
no_two-recordings-alike info one other storage storage' h h' e e' x w =
    let back = taken_out-put_back info one storage [] h e in
    let back' = taken_out-put_back info other storage' [] h' e' in
    sym (ap (λ t. t.samples) back) ∙ ap₂
    (λ (l : List ℤ) (b : List ℕ). (reassemble_entry info l (b ++ [])).samples) x w
    ∙ ap (λ t. t.samples) back'
