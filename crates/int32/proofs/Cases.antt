-- Worked recordings: both entries' definitions tried by computation.
-- Assumes nothing.
use mathlib.Core.Path.{◌≡◌, refl}
use mathlib.Core.List.{[], ◌∷◌}
use lib.IntN.{pos, negsuc}
use Rattle.wrapping.specs.Wrap.{low32, wrap32}
use Rattle.overlay.specs.Overlay.{overlay}
use Rattle.bits.specs.Bits.{low, num, bits_of}
use Rattle.bits.specs.Laid.{bytes_of, bytes_holding}
use Rattle.int32_sample.specs.Sample.{below, low_bits, above}
use Rattle.int32.specs.declared.Int32Info.{Int32Info}
use Rattle.int32.specs.Info.{fields_taken, info_refusal}
use Rattle.int32.specs.Reassemble.{appended, reassemble_refusal, reassemble_entry}
use Rattle.int32.specs.Deconstruct.{all_reinsertable, literal_of, deconstruct_refusal, deconstruct_entry}

-- three literal bits and two copies of the lowest bit
abbrev fields : Int32Info
fields = record { sent_bits = 3; zeros = 0; ones = 0; dups = 2 }

-- 1 and -1 with the literal bits 101 and 010, low bit first: 13 is odd, -6 is even
completed : reassemble_entry fields (pos 1 ∷ negsuc 0 ∷ []) (21 ∷ [])
    ≡ record { refusal = 0; bits = 6; samples = pos 55 ∷ negsuc 23 ∷ [] }
unfolding reassemble_entry reassemble_refusal info_refusal fields_taken appended below low_bits wrap32
    low32 num bits_of low
completed = refl

-- and back, with the spare bits 0 and the bytes after it kept
divided : deconstruct_entry fields (pos 55 ∷ negsuc 23 ∷ []) (255 ∷ 1 ∷ 2 ∷ 3 ∷ 4 ∷ 5 ∷ 6 ∷ 7 ∷ [])
    ≡ record {
      refusal = 0;
      bits = 6;
      samples = pos 1 ∷ negsuc 0 ∷ [];
      literal = 21 ∷ 1 ∷ 2 ∷ 3 ∷ 4 ∷ 5 ∷ 6 ∷ 7 ∷ [];
    }
unfolding deconstruct_entry deconstruct_refusal info_refusal fields_taken all_reinsertable literal_of
    above low_bits wrap32 low32 num bits_of low bytes_of bytes_holding overlay
divided = refl

-- a bit is missing: three samples need nine
short : reassemble_entry fields (pos 1 ∷ pos 2 ∷ pos 3 ∷ []) (21 ∷ [])
    ≡ record { refusal = 3; bits = 0; samples = pos 1 ∷ pos 2 ∷ pos 3 ∷ [] }
unfolding reassemble_entry reassemble_refusal info_refusal fields_taken
short = refl

-- the last of two samples is the image of none: its bits are not alike
no_image : deconstruct_entry fields (pos 55 ∷ pos 54 ∷ []) (9 ∷ 9 ∷ 9 ∷ 9 ∷ 9 ∷ 9 ∷ 9 ∷ 9 ∷ [])
    ≡ record {
      refusal = 16;
      bits = 0;
      samples = pos 55 ∷ pos 54 ∷ [];
      literal = 9 ∷ 9 ∷ 9 ∷ 9 ∷ 9 ∷ 9 ∷ 9 ∷ 9 ∷ [];
    }
unfolding deconstruct_entry deconstruct_refusal info_refusal fields_taken all_reinsertable low_bits low32
no_image = refl

-- short storage comes before it
short_storage_lem : deconstruct_entry fields (pos 55 ∷ pos 54 ∷ []) (9 ∷ [])
    ≡ record { refusal = 11; bits = 0; samples = pos 55 ∷ pos 54 ∷ []; literal = 9 ∷ [] }
unfolding deconstruct_entry deconstruct_refusal info_refusal fields_taken all_reinsertable low_bits low32
short_storage_lem = refl

-- a field above 31 comes before everything
above_31 : reassemble_entry (record { sent_bits = 31; zeros = 0; ones = 32; dups = 0 }) (pos 1 ∷ []) []
    ≡ record { refusal = 15; bits = 0; samples = pos 1 ∷ [] }
unfolding reassemble_entry reassemble_refusal info_refusal fields_taken
above_31 = refl
