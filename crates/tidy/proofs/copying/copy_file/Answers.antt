-- 30 where the copy doesn't fit, else the copy. Assumes nothing.
use mathlib.Core.Path.{sym, ◌∙◌}
use borrow.Author.Tests.{leb-true}
use Rattle.tidy.proofs.FileLaws.{short-buffer, text-written}
use Rattle.tidy.proofs.copying.copy_file.Goals as goal

pub returns-then-not-fits : goal.returns-then-not-fits
returns-then-not-fits c = rw c.bare.ensures (short-buffer _ _ (sym c.fits.ensures ∙ c.if-not-fits.true))

pub write_file-requires : goal.write_file-requires
write_file-requires c = leb-true _ _ (sym c.fits.ensures ∙ c.if-not-fits.false)

pub returns : goal.returns
returns c =
    text-written _ _ (sym c.fits.ensures ∙ c.if-not-fits.false) c.write_file.ensures
