-- Whether an attribute is missing, by the marks and by the row of each: the loop that looks for one.
use Prim.Native.Nat.{ℕ, zero, suc, ◌+◌, ◌*◌, ◌≤◌, ◌<◌}
use Rattle.std.specs.Prelude.{◌≡◌, Bool, true, false, length, get_or}
use Rattle.std.proofs.Math.Path.{refl}
use Rattle.std.proofs.Common.{sym, ◌∙◌, ap, true≢false, arith}
use mathlib.Core.List.{List, [], ◌∷◌}
use Rattle.std.proofs.Math.Decide.{ℕ_discrete}
use Rattle.rules.specs.Reading.{refused, got}
use Rattle.rules.specs.Attributes.{Default, Attribute, attribute_at, is_required}
use Rattle.rules.specs.Document.{Written}
use Rattle.rules.specs.Given.{given_for, is_missing, none_missing}
use Rattle.basic_laws.specs.Truth.{bool_cases}
use Rattle.layout.specs.Sizes.{ATTRIBUTE}
use Rattle.list_table.specs.declared.Row.{Row}
use Rattle.list_table.specs.Lists.{row_in, ListAt}
use Rattle.list_table.specs.Finds.{required_is, required_not}
use Rattle.attribute_marks.specs.Marks.{Marked}
use Rattle.attribute_marks.specs.Marking.{is_some, mark_none, mark_some}

missing_is : (f : Default) (ws : List Written) → is_some ws ≡ false → is_required f ≡ true → is_missing f ws ≡ true
missing_is f [] e r = r
missing_is f (w ∷ ws) e r = absurd (true≢false e)

missing_given : (f : Default) (ws : List Written) → is_some ws ≡ true → is_missing f ws ≡ false
missing_given f [] e = absurd (true≢false (sym e))
missing_given f (w ∷ ws) e = refl

missing_spared : (f : Default) (ws : List Written) → is_required f ≡ false → is_missing f ws ≡ false
missing_spared f [] r = r
missing_spared f (w ∷ ws) r = refl

module _ (s d : List ℕ) (at : ℕ) (ws : List Written) where
  abbrev is_missed : Attribute → Bool
  is_missed a = is_missing a.default (given_for s a d ws)

  one_missing : (xs : List Attribute) (k : ℕ) → k < length xs → is_missed (attribute_at xs k) ≡ true → none_missing s xs d at ws ≡ refused 21 at
  unfolding attribute_at none_missing
  one_missing [] k h e = absurd (omega (arith, h))
  one_missing (a ∷ xs) zero h e = rw (none_missing, e)
  one_missing (a ∷ xs) (suc k) h e = bool_cases (is_missed a) (λ f. rw (none_missing, f)) (λ f. rw (none_missing, f) (one_missing xs k (omega (arith, h)) e))

  all_there : (xs : List Attribute) → ((k : ℕ) → k < length xs → is_missed (attribute_at xs k) ≡ false) → none_missing s xs d at ws ≡ got tt
  unfolding attribute_at none_missing
  all_there [] f = refl
  all_there (a ∷ xs) f = rw (none_missing, f 0 (omega arith)) (all_there xs (λ k h. f (suc k) (omega (arith, h))))

-- None of the first k attributes of the list at b is required and not marked.
pub record NoneMissing (l : List ℕ) (b : ℕ) (marks : List ℕ) (k : ℕ) : Type 0 where
  none : (j : ℕ) → j < k → get_or marks (2 * j) 0 ≡ 0 → (row_in l (b + 1 + ATTRIBUTE * j)).default ≡ 0 → ⊥

module _ (l : List ℕ) (b : ℕ) (marks : List ℕ) where
  pub missing_first : NoneMissing l b marks 0
  missing_first = record { none = λ j h. absurd (omega (arith, h)) }

  pub missing_turn : (k : ℕ) → NoneMissing l b marks k → (get_or marks (2 * k) 0 ≡ 0 → (row_in l (b + 1 + ATTRIBUTE * k)).default ≡ 0 → ⊥) → NoneMissing l b marks (k + 1)
  missing_turn k w n = record { none = λ j h. by_last j h (ℕ_discrete j k) }
    where
      by_last : (j : ℕ) → j < k + 1 → Dec (j ≡ k) → get_or marks (2 * j) 0 ≡ 0 → (row_in l (b + 1 + ATTRIBUTE * j)).default ≡ 0 → ⊥
      by_last j h (yes q) x y = n (ap (λ m. get_or marks (2 * m) 0) (sym q) ∙ x) (ap (λ m. (row_in l (b + 1 + ATTRIBUTE * m)).default) (sym q) ∙ y)
      by_last j h (no q) x y = w.none j (omega (arith, h, q)) x y

  module _ (long : ℕ) (s d : List ℕ) (xs : List Attribute) (ws : List Written) (a : ListAt long s l b xs) (m : Marked s xs d ws marks) (at : ℕ) where
    pub missing_found : (k n : ℕ) (r : Row) → n ≡ length xs → k < n → get_or marks (2 * k) 0 ≡ 0 → r ≡ row_in l (b + 1 + ATTRIBUTE * k) → r.default ≡ 0 → none_missing s xs d at ws ≡ refused 21 at
    missing_found k n r e h x q z =
        let i : k < length xs = omega (arith, h, e) in
        one_missing s d at ws xs k i
        (missing_is (attribute_at xs k).default (given_for s (attribute_at xs k) d ws) (mark_none marks k (given_for s (attribute_at xs k) d ws) (m k i) x)
        (ap is_required (sym (a.rows k i).default) ∙ required_is _ _ (sym (ap Row.default q) ∙ z)))

    pub missing_none : (k n : ℕ) → n ≡ length xs → n ≤ k → NoneMissing l b marks k → none_missing s xs d at ws ≡ got tt
    missing_none k n e h w = all_there s d at ws xs (λ j g. by_mark j g (ℕ_discrete (get_or marks (2 * j) 0) 0))
      where
        by_mark : (j : ℕ) → j < length xs → Dec (get_or marks (2 * j) 0 ≡ 0) → is_missing (attribute_at xs j).default (given_for s (attribute_at xs j) d ws) ≡ false
        by_mark j g (yes x) =
            missing_spared (attribute_at xs j).default (given_for s (attribute_at xs j) d ws) (ap is_required (sym (a.rows j g).default) ∙ required_not _ _ (w.none j (omega (arith, g, h, e)) x))
        by_mark j g (no x) = missing_given (attribute_at xs j).default (given_for s (attribute_at xs j) d ws) (mark_some marks j (given_for s (attribute_at xs j) d ws) (m j g) x)
