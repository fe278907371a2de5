-- `wave_header::is_wave` meets its contract: one law for each of its tests.
-- Assumes nothing.
use mathlib.Core.Path.{◌≡◌, sym, ap, ◌∙◌}
use mathlib.Core.Bool.{true}
use Prim.Native.Nat.{ℕ, ◌-◌}
use lib.Dec.{eqb}
use lib.ListN.{length, take}
use Rattle.std.specs.Cmp.Lexicographic.{pointwise}
use Rattle.overlay.proofs.OverlayLaws.{overlay_whole}
use Rattle.wave_file.specs.File.{header_bytes, rate_taken, wave_header}
use Rattle.wave_header.proofs.AlikeLaws.{compared_alike}
use Rattle.wave_header.proofs.WaveLaws.{wave-short, wave-half, wave-rate, wave_compared}
use Rattle.wave_file.proofs.FileLaws.{header-length}
use Rattle.wave_header.proofs.is_wave.Goals as goal

pub returns-then-file-lt-HEADER_BYTES : goal.returns-then-file-lt-HEADER_BYTES
returns-then-file-lt-HEADER_BYTES c = wave-short _ c.if-file-lt-HEADER_BYTES.true

pub returns-then-size-ne0 : goal.returns-then-size-ne0
returns-then-size-ne0 c = wave-half _ c.if-file-lt-HEADER_BYTES.false c.if-size-ne0.true

pub returns-then-not-is_rate : goal.returns-then-not-is_rate
returns-then-not-is_rate c =
    wave-rate _ c.if-file-lt-HEADER_BYTES.false c.if-size-ne0.false
    (ap rate_taken (sym c.rate_of-rate.ensures) ∙ sym c.is_rate.ensures
    ∙ c.if-not-is_rate.true)

pub returns : goal.returns
returns c =
    let taken : rate_taken c.rate_of-rate.result ≡ true = sym c.is_rate.ensures ∙ c.if-not-is_rate.false in
    let file = c.args.file.now in
    let size = length file - header_bytes in
    let is : c.lay_header.new.out ≡ wave_header c.rate_of-rate.result size = c.lay_header.ensures
    ∙ overlay_whole _ (wave_header c.rate_of-rate.result size) (header-length _ size) in
    let long : length c.lay_header.new.out ≡ header_bytes = ap length is ∙ header-length _ size in
    let compared = c.starts_with.ensures.value
    ∙ ap (λ (n : ℕ). pointwise eqb c.lay_header.new.out (take n file)) long
    ∙ compared_alike (take header_bytes file) c.lay_header.new.out in
    wave_compared _ _ _ _ c.if-file-lt-HEADER_BYTES.false c.if-size-ne0.false c.rate_of-rate.ensures
    taken is compared
