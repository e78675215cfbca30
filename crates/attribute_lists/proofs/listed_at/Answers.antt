-- `listed_at` meets its contract: each way by the tests that led there.
use Rattle.std.specs.Prelude.{ℕ, ◌-◌, ◌≤◌, ◌≡◌, false, not, get_or}
use Rattle.std.proofs.Common.{sym, ap, ◌∙◌, true≢false, arith, ne_eqb}
use Rattle.std.proofs.Math.Decide.{ℕ_discrete}
use Rattle.rules.specs.Bytes.{letter}
use Rattle.text.specs.Refusal.{refusal_of}
use Rattle.text.specs.Words.{tested, name_end_from, name_end_le, name_end_more}
use Rattle.gaps.specs.Unfit.{unfit_is}
use Rattle.element_names.specs.Records.{number_none}
use Rattle.attribute_lists.specs.Listed.{is_head}
use Rattle.attribute_lists.specs.Lookup.{listed_head, listed_group, listed_unfit, listed_long, listed_undeclared, listed_twice, listed_got}
use Rattle.attribute_lists.proofs.listed_at.Goals as goal

pub returns-then-b-eq40 : goal.returns-then-b-eq40
returns-then-b-eq40 c = let a = c.args in
    (λ es ls n r h. ap refusal_of c.at.ensures ∙ listed_group a.long a.s.now es ls a.i (tested letter c.byte-b.ensures c.is_letter.ensures c.if-not-is_letter.true) (sym c.byte-b.ensures ∙ c.if-b-eq40.true), tt)

pub returns-then-not-is_letter : goal.returns-then-not-is_letter
returns-then-not-is_letter c = let a = c.args in (
  λ es ls n r h.
      ap refusal_of c.unfit_at.ensures ∙ unfit_is a.s.now a.i
      ∙ sym (listed_unfit a.long a.s.now es ls a.i (tested letter c.byte-b.ensures c.is_letter.ensures c.if-not-is_letter.true) (λ e. c.if-b-eq40.false (c.byte-b.ensures ∙ e))),
  tt,
)

pub overflow_sub-e : goal.overflow_sub-e
overflow_sub-e c = omega (arith, name_end_from c.args.s.now c.args.i, c.name_end-e.ensures)

pub returns-then-long-e : goal.returns-then-long-e
returns-then-long-e c = let a = c.args in
    (λ es ls n r h. ap refusal_of c.at-then-long-e.ensures ∙ listed_long a.long a.s.now es ls a.i (tested letter c.byte-b.ensures c.is_letter.ensures c.if-not-is_letter.false) _ c.name_end-e.ensures c.if-long-e.true, tt)

pub overflow_sub-e-2 : goal.overflow_sub-e-2
overflow_sub-e-2 c = omega (arith, name_end_from c.args.s.now c.args.i, c.name_end-e.ensures)

pub declared-requires : goal.declared-requires
declared-requires c = let a = c.args in
    let is_letter = tested letter c.byte-b.ensures c.is_letter.ensures c.if-not-is_letter.false in (
      omega (arith, c.requires),
      omega (arith, c.requires),
      omega (arith, name_end_more a.s.now a.i is_letter, c.name_end-e.ensures),
      omega (arith, c.requires, name_end_le a.s.now a.i c.requires.0, c.name_end-e.ensures),
    )

pub returns-in_default : goal.returns-in_default
returns-in_default c = let a = c.args in
    let is_letter = tested letter c.byte-b.ensures c.is_letter.ensures c.if-not-is_letter.false in (
      λ es ls n r h.
          ap refusal_of c.at-in_default.ensures
          ∙ listed_undeclared a.long a.s.now es ls a.i is_letter _ c.name_end-e.ensures c.if-long-e.false
          (c.declared.ensures.found_value es n r).0 (number_none _ c.in_default.not-Some),
      tt,
    )

pub returns-then-is_head : goal.returns-then-is_head
returns-then-is_head c = let a = c.args in
    let is_letter = tested letter c.byte-b.ensures c.is_letter.ensures c.if-not-is_letter.false in
    let k = c.in-Some.k in
    let within : (1 ≤ k.0) × (k.0 ≤ a.d.count) = rw c.in-Some.is at c.declared.ensures.found_in_count in (
      λ es ls n r h.
          let found = rw c.in-Some.is at (c.declared.ensures.found_value es n r).0 in
          ap refusal_of c.at-then-is_head.ensures
          ∙ listed_twice a.long a.s.now es ls a.i is_letter _ c.name_end-e.ensures c.if-long-e.false found
          (λ z. omega (arith, within, z))
          (listed_head a.long a.s.now a.heads.now ls _ h (omega (arith, within)) (omega (arith, within, c.requires)))
          (sym c.is_head.ensures ∙ c.if-is_head.true),
      tt,
    )

-- What is no head is 0.
no_head : (h : ℕ) → is_head h ≡ false → h ≡ 0
no_head h e = by_head (ℕ_discrete h 0)
  where
    by_head : Dec (h ≡ 0) → h ≡ 0
    by_head (yes q) = q
    by_head (no f) = absurd (true≢false (sym (ap not (ne_eqb h 0 f)) ∙ e))

pub returns : goal.returns
returns c = let a = c.args in
    let is_letter = tested letter c.byte-b.ensures c.is_letter.ensures c.if-not-is_letter.false in
    let k = c.in-Some.k in
    let within : (1 ≤ k.0) × (k.0 ≤ a.d.count) = rw c.in-Some.is at c.declared.ensures.found_in_count in
    let free : get_or a.heads.now (k.0 - 1) 0 ≡ 0 = no_head _ (sym c.is_head.ensures ∙ c.if-is_head.false) in (
      λ es ls n r h.
          let found = rw c.in-Some.is at (c.declared.ensures.found_value es n r).0 in
          listed_got a.long a.s.now es ls a.i is_letter _ c.name_end-e.ensures c.if-long-e.false found
          (λ z. omega (arith, within, z))
          (listed_head a.long a.s.now a.heads.now ls _ h (omega (arith, within)) (omega (arith, within, c.requires)))
          (sym c.is_head.ensures ∙ c.if-is_head.false),
      omega (
        arith,
        free,
        c.requires,
        within,
        name_end_from a.s.now a.i,
        name_end_le a.s.now a.i c.requires.0,
        c.name_end-e.ensures,
      ),
    )
