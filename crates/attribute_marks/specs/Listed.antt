-- The attributes that a tag gives, read one after the other: a refusal of the first is one of all, one more, and that no more are listed than the list has.
use Rattle.std.specs.Prelude.{ℕ, ◌+◌, ◌≤◌, ◌<◌, ◌≡◌, Bool, true, false, not, ◌||◌, take, drop, leb}
use Rattle.std.proofs.Math.Path.{refl, ap}
use Rattle.std.proofs.Common.{sym, ◌∙◌, take-append-drop, take_all, length-take-le, leb-true}
use Rattle.std.proofs.Math.Bool.{or-false}
use mathlib.Core.List.{List, [], ◌∷◌, ◌++◌}
use Rattle.std.proofs.Math.Decide.{dec_le}
use native.Mathlib.Omega.{arith}
use Rattle.std.proofs.Math.ListN.{length}
use Rattle.std.proofs.lemmas.Bool.{not-true}
use Rattle.rules.specs.Bytes.{ATTCNT}
use Rattle.rules.specs.Reading.{Reading, refused, got, and_then}
use Rattle.rules.specs.Attributes.{Attribute, is_called, attribute_from, attribute_of}
use Rattle.rules.specs.TypeFile.{same_name}
use Rattle.rules.specs.Document.{Written}
use Rattle.rules.specs.Given.{is_given_in, all_listed, all_fit, given_for}
use Rattle.basic_laws.specs.Truth.{bool_cases, and_split}
use Rattle.attribute_marks.specs.Each.{is_new, is_fitting}
use Rattle.attribute_marks.specs.Marking.{some_none, given_in}

-- These, the last of vs first, then bs.
unfoldable onto : List Written → List Written → List Written
onto [] bs = bs
onto (v ∷ vs) bs = onto vs (v ∷ bs)

or_swap : (a b c : Bool) → (a || (b || c)) ≡ ((b || a) || c)
or_swap true true c = refl
or_swap true false c = refl
or_swap false true c = refl
or_swap false false c = refl

onto_given : (d : List ℕ) (vs bs : List Written) (w : Written) → is_given_in d (onto vs bs) w ≡ (is_given_in d vs w || is_given_in d bs w)
unfolding onto is_given_in
onto_given d [] bs w = refl
onto_given d (v ∷ vs) bs w = onto_given d vs (v ∷ bs) w ∙ or_swap (is_given_in d vs w) (same_name d v.at v.size w.at w.size) (is_given_in d bs w)

module _ (s : List ℕ) (xs : List Attribute) (d : List ℕ) where
  listed_append : (bs vs us : List Written) → all_listed s xs d bs (vs ++ us) ≡ and_then (all_listed s xs d bs vs) (λ u. all_listed s xs d (onto vs bs) us)
  unfolding all_listed onto
  listed_append bs [] us = refl
  listed_append bs (v ∷ vs) us = bool_cases (is_new s xs d bs v) (λ e. rw (all_listed, e) (listed_append (v ∷ bs) vs us)) (λ e. rw (all_listed, e))

  -- A refusal of the first stands for all.
  pub listed_refused : (vs us : List Written) {n p : ℕ} → all_listed s xs d [] vs ≡ refused n p → all_listed s xs d [] (vs ++ us) ≡ refused n p
  listed_refused vs us e = listed_append [] vs us ∙ ap (λ (r : Reading (Unit {0})). and_then r (λ u. all_listed s xs d (onto vs []) us)) e

  -- One attribute more is listed.
  listed_one : (vs : List Written) (w : Written) → all_listed s xs d [] vs ≡ got tt → all_listed s xs d [] (vs ++ w ∷ []) ≡ elim (is_new s xs d vs w) [ true ↦ got tt | false ↦ refused 20 w.at ]
  unfolding all_listed is_given_in
  listed_one vs w e =
      let g : is_given_in d (onto vs []) w ≡ is_given_in d vs w = onto_given d vs [] w ∙ or-false (is_given_in d vs w) in
      listed_append [] vs (w ∷ []) ∙ ap (λ (r : Reading (Unit {0})). and_then r (λ u. all_listed s xs d (onto vs []) (w ∷ []))) e ∙ rw (all_listed, g)

  pub listed_more : (vs : List Written) (w : Written) → all_listed s xs d [] vs ≡ got tt → is_new s xs d vs w ≡ true → all_listed s xs d [] (vs ++ w ∷ []) ≡ got tt
  listed_more vs w e n = listed_one vs w e ∙ rw n

  pub listed_ends : (vs : List Written) (w : Written) → all_listed s xs d [] vs ≡ got tt → is_new s xs d vs w ≡ false → all_listed s xs d [] (vs ++ w ∷ []) ≡ refused 20 w.at
  listed_ends vs w e n = listed_one vs w e ∙ rw n

-- Values fit what is declared.

module _ (long : ℕ) (s : List ℕ) (xs : List Attribute) (d : List ℕ) where
  fit_append : (vs us : List Written) → all_fit long s xs d (vs ++ us) ≡ and_then (all_fit long s xs d vs) (λ u. all_fit long s xs d us)
  unfolding all_fit
  fit_append [] us = refl
  fit_append (v ∷ vs) us = bool_cases (is_fitting long s xs d v) (λ e. rw (all_fit, e) (fit_append vs us)) (λ e. rw (all_fit, e))

  pub fit_refused : (vs us : List Written) {n p : ℕ} → all_fit long s xs d vs ≡ refused n p → all_fit long s xs d (vs ++ us) ≡ refused n p
  fit_refused vs us e = fit_append vs us ∙ ap (λ (r : Reading (Unit {0})). and_then r (λ u. all_fit long s xs d us)) e

  fit_one : (vs : List Written) (w : Written) → all_fit long s xs d vs ≡ got tt → all_fit long s xs d (vs ++ w ∷ []) ≡ elim (is_fitting long s xs d w) [ true ↦ got tt | false ↦ refused 22 w.quote ]
  unfolding all_fit
  fit_one vs w e = fit_append vs (w ∷ []) ∙ ap (λ (r : Reading (Unit {0})). and_then r (λ u. all_fit long s xs d (w ∷ []))) e

  pub fit_more : (vs : List Written) (w : Written) → all_fit long s xs d vs ≡ got tt → is_fitting long s xs d w ≡ true → all_fit long s xs d (vs ++ w ∷ []) ≡ got tt
  fit_more vs w e n = fit_one vs w e ∙ rw n

  pub fit_ends : (vs : List Written) (w : Written) → all_fit long s xs d vs ≡ got tt → is_fitting long s xs d w ≡ false → all_fit long s xs d (vs ++ w ∷ []) ≡ refused 22 w.quote
  fit_ends vs w e n = fit_one vs w e ∙ rw n

-- No more attributes are given than the list has.

-- How many of the attributes are given.
unfoldable counted : (s : List ℕ) → List Attribute → (d : List ℕ) → List Written → ℕ
counted s [] d bs = 0
counted s (a ∷ xs) d bs = length (given_for s a d bs) + counted s xs d bs

module _ (s d : List ℕ) where
  given_once : (a : Attribute) (bs : List Written) → length (given_for s a d bs) ≤ 1
  unfolding given_for
  given_once a [] = omega arith
  given_once a (b ∷ bs) = bool_cases (is_called s a d b.at b.size) (λ e. rw (given_for, e) (omega arith)) (λ e. rw (given_for, e) (given_once a bs))

  counted_most : (xs : List Attribute) (bs : List Written) → counted s xs d bs ≤ length xs
  unfolding counted
  counted_most [] bs = omega arith
  counted_most (a ∷ xs) bs = omega (arith, given_once a bs, counted_most xs bs)

  module _ (bs : List Written) (w : Written) where
    given_called : (a : Attribute) → is_called s a d w.at w.size ≡ true → length (given_for s a d (w ∷ bs)) ≡ 1
    unfolding given_for
    given_called a e = rw (given_for, e)

    given_skips : (a : Attribute) → is_called s a d w.at w.size ≡ false → length (given_for s a d (w ∷ bs)) ≡ length (given_for s a d bs)
    unfolding given_for
    given_skips a e = rw (given_for, e)

    counted_keeps : (xs : List Attribute) → counted s xs d bs ≤ counted s xs d (w ∷ bs)
    unfolding counted
    counted_keeps [] = omega arith
    counted_keeps (a ∷ xs) =
        bool_cases (is_called s a d w.at w.size) (λ e. omega (arith, given_called a e, given_once a bs, counted_keeps xs)) (λ e. omega (arith, given_skips a e, counted_keeps xs))

    -- A new one is one more.
    counted_more : (m : ℕ) (xs : List Attribute) → 1 ≤ attribute_from m s xs d w.at w.size → is_given_in d bs w ≡ false → counted s xs d bs < counted s xs d (w ∷ bs)
    unfolding counted attribute_from
    counted_more m [] h n = absurd (omega arith)
    counted_more m (a ∷ xs) h n =
        bool_cases (is_called s a d w.at w.size)
        (λ e.
        let z : length (given_for s a d bs) ≡ 0 = ap length (some_none (given_for s a d bs) (sym (given_in s a d bs w e) ∙ n)) in
        omega (arith, given_called a e, z, counted_keeps xs))
        (λ e. omega (arith, given_skips a e, counted_more (m + 1) xs (rw (attribute_from, e) at h) n))

refused≢got : {n k : ℕ} → ◌≡◌ {A = Reading (Unit {0})} (refused n k) (got tt) → ⊥
refused≢got e = let z : ◌≡◌ {A = ℕ} 0 1 = cc in omega arith

module _ (s : List ℕ) (xs : List Attribute) (d : List ℕ) where
  listed_counted : (bs ws : List Written) → all_listed s xs d bs ws ≡ got tt → counted s xs d bs + length ws ≤ length xs
  unfolding all_listed attribute_of
  listed_counted bs [] e = omega (arith, counted_most s d xs bs)
  listed_counted bs (w ∷ ws) e =
      bool_cases (is_new s xs d bs w)
      (λ n.
      let (l, g) = and_split (leb 1 (attribute_of s xs d w.at w.size)) (not (is_given_in d bs w)) n in
      omega (arith, counted_more s d bs w 1 xs (leb-true _ _ l) (not-true (is_given_in d bs w) g), listed_counted (w ∷ bs) ws (rw (all_listed, n) at e)))
      (λ n. absurd (refused≢got (rw (all_listed, n) at e)))

  -- Of the attributes of a tag that has more than a list may have, the first ATTCNT + 1 are refused as all are; otherwise they are all.
  pub kept_all : (ws : List Written) → length xs ≤ ATTCNT → all_listed s xs d [] (take (ATTCNT + 1) ws) ≡ got tt → take (ATTCNT + 1) ws ≡ ws
  kept_all ws few e = by_length (dec_le (length ws) (ATTCNT + 1))
    where
      by_length : Dec (length ws ≤ ATTCNT + 1) → take (ATTCNT + 1) ws ≡ ws
      by_length (yes h) = take_all (ATTCNT + 1) ws h
      by_length (no h) = absurd (omega (arith, h, length-take-le (ATTCNT + 1) ws (omega arith), listed_counted [] (take (ATTCNT + 1) ws) e, few))

  pub kept_refused : (ws : List Written) {n p : ℕ} → all_listed s xs d [] (take (ATTCNT + 1) ws) ≡ refused n p → all_listed s xs d [] ws ≡ refused n p
  kept_refused ws e = ap (all_listed s xs d []) (sym (take-append-drop (ATTCNT + 1) ws)) ∙ listed_refused s xs d (take (ATTCNT + 1) ws) (drop (ATTCNT + 1) ws) e
