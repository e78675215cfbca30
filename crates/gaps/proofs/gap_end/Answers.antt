-- `gap_end` meets its contract: the gap goes on where its first separators end.
use Rattle.std.proofs.Common.{◌∙◌, arith}
use Rattle.text.specs.Words.{separators_end_le, gap_start}
use Rattle.gaps.proofs.gap_end.Goals as goal

pub gap_on-requires : goal.gap_on-requires
gap_on-requires c =
    omega (arith, separators_end_le c.args.s.now c.args.at c.requires, c.separators_end.ensures)

pub returns : goal.returns
returns c = c.gap_on.ensures ∙ rw c.separators_end.ensures (gap_start c.args.s.now c.args.at)
