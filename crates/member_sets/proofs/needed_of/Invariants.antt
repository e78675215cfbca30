-- `needed_of` meets its contract. The invariant: those before h are noted.
use Rattle.member_bits.specs.Having.{Has}
use Rattle.member_sets.specs.Linking.{is_due, Before}
use Rattle.member_sets.proofs.needed_of.Given as goal

abbrev pub invariant-loop-h : goal.invariant-loop-h
invariant-loop-h l = Has l.b (Before (is_due l.m.table.now l.m.e.0) l.h)
