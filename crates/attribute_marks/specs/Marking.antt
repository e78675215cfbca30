-- What a tag gives for an attribute, by what it gives of its name, and how one more is marked.
use Rattle.std.specs.Prelude.{ℕ, ◌+◌, ◌*◌, ◌≤◌, ◌<◌, ◌≡◌, Bool, true, false, length, get_or, set}
use Rattle.std.proofs.Math.Path.{refl, sym}
use Rattle.std.proofs.Common.{◌∙◌, true≢false, arith, length-set, get_or-set_same, get_or-set_other}
use mathlib.Core.List.{List, [], ◌∷◌, ◌++◌}
use Rattle.std.proofs.Math.Decide.{ℕ_discrete}
use Rattle.rules.specs.Bytes.{ATTCNT}
use Rattle.rules.specs.Attributes.{Attribute, is_called, attribute_at}
use Rattle.rules.specs.Document.{Written}
use Rattle.rules.specs.Given.{is_given_in, given_for}
use Rattle.basic_laws.specs.Truth.{bool_cases}
use Rattle.layout.specs.Sizes.{MARKS}
use Rattle.attribute_marks.specs.Called.{called_alike}
use Rattle.attribute_marks.specs.Differ.{NamesDiffer, called_once}
use Rattle.attribute_marks.specs.Marks.{MarkedAs, Marked}

-- There is one.
abbrev pub is_some : List Written → Bool
is_some [] = false
is_some (w ∷ ws) = true

-- None is given, or one is.
pub some_none : (ws : List Written) → is_some ws ≡ false → ws ≡ []
some_none [] e = refl
some_none (w ∷ ws) e = absurd (true≢false e)

pub mark_none : (marks : List ℕ) (k : ℕ) (ws : List Written) → MarkedAs marks k ws → get_or marks (2 * k) 0 ≡ 0 → is_some ws ≡ false
mark_none marks k [] m e = refl
mark_none marks k (w ∷ ws) m e = absurd (omega (arith, m.0, e))

pub mark_some : (marks : List ℕ) (k : ℕ) (ws : List Written) → MarkedAs marks k ws → (get_or marks (2 * k) 0 ≡ 0 → ⊥) → is_some ws ≡ true
mark_some marks k [] m e = absurd (e m)
mark_some marks k (w ∷ ws) m e = refl

module _ (s : List ℕ) (a : Attribute) (d : List ℕ) where
  -- Where w is called like the attribute, what is given of its name is given for the attribute.
  pub given_in : (vs : List Written) (w : Written) → is_called s a d w.at w.size ≡ true → is_given_in d vs w ≡ is_some (given_for s a d vs)
  unfolding is_given_in given_for
  given_in [] w y = refl
  given_in (v ∷ vs) w y =
      let e = called_alike s a d v w y in
      bool_cases (is_called s a d v.at v.size) (λ x. rw (is_given_in, given_for, x, sym e ∙ x)) (λ x. rw (is_given_in, given_for, x, sym e ∙ x) (given_in vs w y))

  given_other : (vs : List Written) (w : Written) → is_called s a d w.at w.size ≡ false → given_for s a d (vs ++ w ∷ []) ≡ given_for s a d vs
  unfolding given_for
  given_other [] w y = rw (given_for, y)
  given_other (v ∷ vs) w y = bool_cases (is_called s a d v.at v.size) (λ x. rw (given_for, x)) (λ x. rw (given_for, x) (given_other vs w y))

  given_first : (vs : List Written) (w : Written) → is_called s a d w.at w.size ≡ true → is_some (given_for s a d vs) ≡ false → given_for s a d (vs ++ w ∷ []) ≡ w ∷ []
  unfolding given_for
  given_first [] w y n = rw (given_for, y)
  given_first (v ∷ vs) w y n =
      bool_cases (is_called s a d v.at v.size) (λ x. absurd (true≢false (rw (given_for, x) at n))) (λ x. rw (given_for, x) (given_first vs w y (rw (given_for, x) at n)))

-- The mark of the k-th attribute.
abbrev pub put_mark : List ℕ → (k value size : ℕ) → List ℕ
put_mark marks k value size = set (set marks (2 * k) value) (2 * k + 1) size

as_other : (marks after : List ℕ) (k : ℕ) (ws : List Written) → get_or after (2 * k) 0 ≡ get_or marks (2 * k) 0 → get_or after (2 * k + 1) 0 ≡ get_or marks (2 * k + 1) 0 → MarkedAs marks k ws → MarkedAs after k ws
as_other marks after k [] e f m = e ∙ m
as_other marks after k (w ∷ ws) e f m = (e ∙ m.0, f ∙ m.1)

-- One more is marked, which is called like the k-th attribute, of which there was none.
pub marked_more : (s : List ℕ) (xs : List Attribute) (d : List ℕ) (before : List Written) (w : Written) (marks : List ℕ) (k : ℕ) → length marks ≡ MARKS → length xs ≤ ATTCNT → NamesDiffer s xs → Marked s xs d before marks
    → k < length xs → is_called s (attribute_at xs k) d w.at w.size ≡ true → get_or marks (2 * k) 0 ≡ 0 → Marked s xs d (before ++ w ∷ []) (put_mark marks k (w.quote + 1) w.width)
marked_more s xs d before w marks k long few n m h y z j g = by_same (ℕ_discrete j k)
  where
    one : List ℕ
    one = set marks (2 * k) (w.quote + 1)

    after : List ℕ
    after = put_mark marks k (w.quote + 1) w.width

    by_same : Dec (j ≡ k) → MarkedAs after j (given_for s (attribute_at xs j) d (before ++ w ∷ []))
    by_same (yes q) =
        rw (q, given_first s (attribute_at xs k) d before w y (mark_none marks k (given_for s (attribute_at xs k) d before) (m k h) z)) (
          get_or-set_other one (2 * k + 1) (2 * k) w.width 0 (omega arith) ∙ get_or-set_same marks (2 * k) (w.quote + 1) 0 (omega arith),
          get_or-set_same one (2 * k + 1) w.width 0 (omega (arith, length-set marks (2 * k) (w.quote + 1))),
        )
    by_same (no q) =
        let x : is_called s (attribute_at xs j) d w.at w.size ≡ false = bool_cases (is_called s (attribute_at xs j) d w.at w.size) (λ e. absurd (q (called_once s xs n d w.at w.size j k g h e y))) (λ e. e) in
        rw (given_other s (attribute_at xs j) d before w x)
        (as_other marks after j (given_for s (attribute_at xs j) d before) (get_or-set_other one (2 * k + 1) (2 * j) w.width 0 (omega (arith, q)) ∙ get_or-set_other marks (2 * k) (2 * j) (w.quote + 1) 0 (omega (arith, q)))
        (get_or-set_other one (2 * k + 1) (2 * j + 1) w.width 0 (omega (arith, q)) ∙ get_or-set_other marks (2 * k) (2 * j + 1) (w.quote + 1) 0 (omega (arith, q)))
        (m j g))

-- None of the first n attributes is marked.
pub record Cleared (marks : List ℕ) (n : ℕ) : Type 0 where
  pub long : length marks ≡ MARKS
  pub none : (k : ℕ) → k < n → get_or marks (2 * k) 0 ≡ 0

pub cleared_first : (marks : List ℕ) → length marks ≡ MARKS → Cleared marks 0
cleared_first marks e = record { long = e; none = λ k h. absurd (omega (arith, h)) }

pub cleared_turn : (marks : List ℕ) (n : ℕ) → n < ATTCNT → Cleared marks n → Cleared (set marks (2 * n) 0) (n + 1)
cleared_turn marks n l c = record { long = length-set marks (2 * n) 0 ∙ c.long; none = λ k h. by_last k h (ℕ_discrete k n) }
  where
    by_last : (k : ℕ) → k < n + 1 → Dec (k ≡ n) → get_or (set marks (2 * n) 0) (2 * k) 0 ≡ 0
    by_last k h (yes q) = rw q (get_or-set_same marks (2 * n) 0 0 (omega (arith, c.long)))
    by_last k h (no q) = get_or-set_other marks (2 * n) (2 * k) 0 0 (omega (arith, q)) ∙ c.none k (omega (arith, h, q))
