-- The members around a place have begun besides those that had: the innermost that holds it, and those that hold its group.
use Rattle.std.specs.Prelude.{ℕ, ◌%◌, ◌<◌, ◌≡◌, Bool, ◌||◌, List, [], ◌∷◌, eqb}
use Rattle.std.proofs.Common.{sym, ◌∙◌, ap, arith}
use Rattle.std.proofs.Math.Bool.{or-false, or_assoc}
use Rattle.rules.specs.Bytes.{GRPGTCNT}
use Rattle.layout.specs.Sizes.{AND_GROUPS, ENDING}
use Rattle.and_laws.specs.Ranked.{Level, Rising}
use Rattle.member_laws.specs.Members.{group_at, holds_at, AllSets, Chain}
use Rattle.member_laws.specs.Inside.{Have}
use Rattle.member_laws.specs.Around.{is_holder}
use Rattle.member_laws.specs.Sets.{First, first_of, holds_outward}
use Rattle.member_bits.specs.declared.Bits.{Bits}
use Rattle.member_bits.specs.Having.{Has}
use Rattle.member_bits.specs.Operations.{has_same}
use Rattle.and_groups.specs.Asked.{Enters}

module _ (M : List ℕ) (e h : ℕ) where
  -- Where the holder is none of the table's members, there is no group.
  enters_without : (b : Bits) → ((u : ℕ) (l : Level) → First M e h u l → ⊥) → Enters M e h b b
  enters_without b none = record { bits = λ sets B has u ends x c ls read chain rising have. go B has u ends x ls read chain have }
    where
      go : (B : ℕ → Bool) → Has b B → (u : ℕ) (ends : Bool) (x : ℕ) (ls : List Level) → h ≡ x % ENDING → Chain M e u ends x ls → Have u ls → Has b (λ (n : ℕ). B n || is_holder M e u n ls)
      go B has u ends x [] read chain have = has_same (λ n y z. sym (or-false (B n))) has
      go B has u ends x (l ∷ ls) read chain have = absurd (none u l (first_of M e h u ends x l ls read chain have.0))

  pub enters_none : (b : Bits) → h ≡ 0 → Enters M e h b b
  enters_none b z = enters_without b (λ u l f. omega (arith, f.small))

  pub enters_large : (b : Bits) → GRPGTCNT < h → Enters M e h b b
  enters_large b z = enters_without b (λ u l f. omega (arith, f.small))

  pub enters_far : (b : Bits) → (g : ℕ) → g ≡ group_at M e h → AND_GROUPS < g → Enters M e h b b
  enters_far b g at z = enters_without b (λ u l f. omega (arith, f.within))

  -- The holder and those that hold its group.
  pub enters_all : (h ≡ 0 → ⊥) → (b with_h holding r : Bits) (g : ℕ) → g ≡ group_at M e h → ((B : ℕ → Bool) → Has b B → Has with_h (λ (n : ℕ). B n || eqb n h)) → Has holding (holds_at M e g) → ((f k : ℕ → Bool) → Has with_h f → Has holding k → Has r (λ (n : ℕ). f n || k n)) → Enters M e h b r
  enters_all some b with_h holding r g at more held joins = record { bits = λ sets B has u ends x c ls read chain rising have. go sets B has u ends x c ls read chain rising have }
    where
      go : AllSets M e → (B : ℕ → Bool) → Has b B → (u : ℕ) (ends : Bool) (x c : ℕ) (ls : List Level) → h ≡ x % ENDING → Chain M e u ends x ls → Rising 0 c ls → Have u ls → Has r (λ (n : ℕ). B n || is_holder M e u n ls)
      go sets B has u ends x c [] read chain rising have = absurd (some (read ∙ ap (λ (y : ℕ). y % ENDING) chain))
      go sets B has u ends x c (l ∷ ls) read chain rising have =
          let f = first_of M e h u ends x l ls read chain have.0 in
          has_same
          (λ n y z.
          ap (λ (q : Bool). (B n || eqb n h) || q) (ap (λ (q : ℕ). holds_at M e q n) (at ∙ f.group) ∙ holds_outward M e sets u 0 c ends x l ls chain rising have n y z)
          ∙ or_assoc (B n) (eqb n h) (is_holder M e u n ls)
          ∙ ap (λ (q : ℕ). B n || (eqb n q || is_holder M e u n ls)) f.is)
          (joins _ _ (more B has) held)
