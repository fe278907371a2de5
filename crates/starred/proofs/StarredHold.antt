-- The statement of the starred table: each definition, computed, gives what document 01 says.
-- Assumes nothing.
use mathlib.Core.Path.{refl}
use Rattle.logpack.specs.LogWord.{log_word, magnitude, mantissa}
use Rattle.logpack.specs.Exp2Table.{exp2_table}
use Rattle.wrapping.specs.Wrap.{wrap32, low32}
use Rattle.medians.specs.Adaptation.{up, down}
use Rattle.weights.specs.Weights.{predict, sample, source18, at_most1024, updated, updated_clip}
use Rattle.passes.specs.Terms.{term_of}
use Rattle.passes.specs.Step.{step, advanced}
use Rattle.passes.specs.Run.{passed}
use Rattle.passes.specs.Making.{made, making_refusal, seeded}
use Rattle.wvpair_text.proofs.StarredLaws.{first-printed, second-printed}
use Rattle.starred.specs.Row.{Hold, HoldAll}
use Rattle.starred.specs.Starred.{log_words, medians, predictions, weights, term18, printed, starred}

log_words-hold : Hold log_words
unfolding log_word magnitude mantissa exp2_table wrap32 low32
log_words-hold = (refl, (refl, (refl, (refl, (refl, (refl, (refl, tt)))))))

medians-hold : Hold medians
unfolding up down
medians-hold = (refl, (refl, (refl, (refl, tt))))

predictions-hold : Hold predictions
unfolding predict wrap32 low32
predictions-hold = (refl, (refl, (refl, tt)))

weights-hold : Hold weights
unfolding updated updated_clip at_most1024 wrap32 low32
weights-hold = (refl, (refl, (refl, (refl, tt))))

term18-hold : Hold term18
unfolding made making_refusal seeded term_of passed step advanced sample source18 predict updated wrap32 low32
term18-hold = (refl, (refl, (refl, (refl, tt))))

printed-hold : Hold printed
printed-hold = (first-printed, (second-printed, tt))

-- every starred case holds
pub starred-hold : HoldAll starred
starred-hold = (log_words-hold, (medians-hold, (predictions-hold, (weights-hold, (term18-hold, (printed-hold, tt))))))
