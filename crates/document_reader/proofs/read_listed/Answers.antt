-- `read_listed` meets its contract: members are lent where the type file has an "&".
use mathlib.Core.Path.{refl, subst}
use mathlib.Core.Logic.{inl, inr}
use lib.ListN.{length}
use Rattle.full_tables.specs.And.{Tells}
use Rattle.document_reader.proofs.read_listed.Goals as goal

pub read_tabled-requires : goal.read_tabled-requires
read_tabled-requires c = (c.requires.0, c.requires.1, inl refl)

pub read_tabled-requires-2 : goal.read_tabled-requires-2
read_tabled-requires-2 c =
    let s = c.args.a.file.now in
    let none = subst (Tells s (length s)) c.if-holds_and.false c.holds_and.ensures in
    (c.requires.0, c.requires.1, inr (refl, none))
