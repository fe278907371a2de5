-- `pass_bytes::decode_term_byte` meets its contract. Assumes nothing.
use borrow.Author.Rules.{rules}
use mir.Syntax.{w8}
use mir.ValLaws.{to_z-of_z}
use Rattle.pass_bytes.proofs.ByteLaws.{term_fits, term-read, delta-read}
use Rattle.pass_bytes.proofs.decode_term_byte.Goals as goal

pub returns : goal.returns
returns c = rw (c.from.ensures, term-read c.args.byte, to_z-of_z w8 _ (term_fits c.args.byte), delta-read c.args.byte (search rules))
