-- The names of a list's attributes differ: in a type that was read each is new in its list (number 7).
use Rattle.std.specs.Prelude.{ℕ, zero, suc, ◌≤◌, ◌<◌, ◌≡◌, true, false, List, [], ◌∷◌, ◌++◌, length}
use Rattle.std.proofs.Common.{sym, ◌∙◌, true≢false, inl, inr, arith, length-append}
use Rattle.std.proofs.Math.Decide.{ℕ_discrete, dec_lt}
use Rattle.rules.specs.Reading.{got}
use Rattle.rules.specs.Attributes.{Attribute, is_called, attribute_of, attribute_at}
use Rattle.rules.specs.TypeFile.{Element, type_file}
use Rattle.rules.specs.Elements.{element_at}
use Rattle.rules_laws.specs.Holds.{got_so}
use Rattle.rules_laws.specs.Definitions.{list_holds}
use Rattle.rules_laws.specs.Declarations.{ListedIn}
use Rattle.rules_laws.specs.Within.{All, none, more, type_file_lists}
use Rattle.list_table.specs.Finds.{at_before, at_last}
use Rattle.attribute_marks.specs.Called.{called_both}
use Rattle.attribute_marks.specs.Found.{of_none}

-- No attribute is called like one before it.
pub record NamesDiffer (s : List ℕ) (xs : List Attribute) : Type 0 where
  pub apart : (j k : ℕ) → j < k → k < length xs → is_called s (attribute_at xs j) s (attribute_at xs k).at (attribute_at xs k).size ≡ false

-- So a name is that of one of them at most.
pub called_once : (s : List ℕ) (xs : List Attribute) → NamesDiffer s xs → (d : List ℕ) (at size j k : ℕ) → j < length xs → k < length xs → is_called s (attribute_at xs j) d at size ≡ true
    → is_called s (attribute_at xs k) d at size ≡ true → j ≡ k
called_once s xs n d at size j k h i x y = by_order (dec_lt j k) (dec_lt k j)
  where
    never : (j k : ℕ) → j < k → k < length xs → is_called s (attribute_at xs j) d at size ≡ true → is_called s (attribute_at xs k) d at size ≡ true → ⊥
    never j k l g u v = true≢false (sym (called_both s (attribute_at xs j) (attribute_at xs k) d at size u v) ∙ n.apart j k l g)

    by_order : Dec (j < k) → Dec (k < j) → j ≡ k
    by_order (yes l) b = absurd (never j k l i x y)
    by_order (no l) (yes m) = absurd (never k j m h y x)
    by_order (no l) (no m) = omega arith

differ_more : (s : List ℕ) (xs : List Attribute) (a : Attribute) → NamesDiffer s xs → attribute_of s xs s a.at a.size ≡ 0 → NamesDiffer s (xs ++ a ∷ [])
differ_more s xs a n e = record { apart = λ j k l h. by_last j k l (omega (arith, h, length-append xs (a ∷ []))) (ℕ_discrete k (length xs)) }
  where
    all : List Attribute
    all = xs ++ a ∷ []

    by_last : (j k : ℕ) → j < k → k ≤ length xs → Dec (k ≡ length xs) → is_called s (attribute_at all j) s (attribute_at all k).at (attribute_at all k).size ≡ false
    by_last j k l h (yes q) =
        let i : j < length xs = omega arith in
        rw (q, at_last xs a, at_before xs a j i) (of_none s s a.at a.size xs e j i)
    by_last j k l h (no q) =
        let i : k < length xs = omega arith in
        rw (at_before xs a j (omega arith), at_before xs a k i) (n.apart j k l i)

listed_differ : (long : ℕ) (s : List ℕ) (xs : List Attribute) → ListedIn long s xs → NamesDiffer s xs
listed_differ long s xs (inl e) = rw e (record { apart = λ j k l h. absurd (omega (arith, h)) })
listed_differ long s xs (inr r) = (got_so (list_holds long s (NamesDiffer s) (λ ys a n d. differ_more s ys a n d.fresh) r.from r.inside (record { apart = λ j k l h. absurd (omega (arith, h)) })) r.read).each

-- Those of each element's list, in a type that was read.
pub lists_differ : (long : ℕ) (s : List ℕ) (es : List Element) → type_file long s ≡ got es → (k : ℕ) → k < length es → NamesDiffer s (element_at es k).attributes
unfolding element_at
lists_differ long s es e k h = each es (type_file_lists long s es e) k h
  where
    each : (ds : List Element) → All (λ (x : Element). ListedIn long s x.attributes) ds → (k : ℕ) → k < length ds → NamesDiffer s (element_at ds k).attributes
    each [] none k h = absurd (omega (arith, h))
    each (d ∷ ds) (more p a) zero h = listed_differ long s d.attributes p
    each (d ∷ ds) (more p a) (suc k) h = each ds a k (omega (arith, h))
