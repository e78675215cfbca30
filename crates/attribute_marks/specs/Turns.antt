-- One attribute after the other: what is known behind the first k, and what one more gives.
use Prim.Native.Nat.{ℕ, zero, suc, ◌+◌, ◌*◌, ◌≤◌, ◌<◌}
use Rattle.std.specs.Prelude.{◌≡◌, Result, Ok, Err, Option, Some, None, IfSome, length, get_or}
use Rattle.std.specs.Option.{option_or}
use Rattle.std.proofs.Math.Path.{refl, ap}
use Rattle.std.proofs.Common.{sym, ◌∙◌, subst, add-one, inl, inr}
use mathlib.Core.List.{List, [], ◌∷◌, ◌++◌}
use Rattle.std.proofs.Math.Decide.{ℕ_discrete}
use native.Mathlib.Omega.{arith}
use Rattle.rules.specs.Reading.{Reading, refused, got}
use Rattle.rules.specs.Attributes.{Attribute}
use Rattle.rules.specs.Document as rules
use Rattle.rules.specs.Given.{all_listed, all_fit, given_for}
use Rattle.text.specs.declared.Fault.{Fault}
use Rattle.text.specs.declared.Refusal.{Refusal}
use Rattle.text.specs.declared.Refusal.TheVariants as refusal
use Rattle.text.specs.Refusal.{fault_at}
use Rattle.list_table.specs.Lists.{ListAt}
use Rattle.tag_attributes.specs.declared.Written.{Written}
use Rattle.tag_attributes.specs.Given.{written_as, kept_in, kept_of, WrittenIn, GivenIn}
use Rattle.attribute_marks.specs.Differ.{NamesDiffer}
use Rattle.attribute_marks.specs.Marks.{Marked}
use Rattle.attribute_marks.specs.Each.{Marks, Given, GivenFits, CheckFits, unlisted, unfitting, fitting}
use Rattle.attribute_marks.specs.Listed.{listed_refused, listed_more, listed_ends, fit_refused, fit_more, fit_ends}

-- The first misfit as it is remembered: where its literal begins.
abbrev misfit_at : Option ℕ → Reading (Unit {0})
misfit_at None = got tt
misfit_at (Some q) = refused 22 q

module _ (long : ℕ) (s : List ℕ) (xs : List Attribute) (d : List ℕ) (vs : List rules.Written) (w : rules.Written) (marks : List ℕ) where
  -- One more that fits, and one that does not: the first misfit is remembered.
  fit_right : (m : Option ℕ) → all_fit long s xs d vs ≡ misfit_at m → Marks long s xs d vs w marks (Ok tt) → all_fit long s xs d (vs ++ w ∷ []) ≡ misfit_at m
  fit_right None e (fitting n k f) = fit_more long s xs d vs w e f
  fit_right (Some q) e (fitting n k f) = fit_refused long s xs d vs (w ∷ []) e

  fit_wrong : (m : Option ℕ) (r : Refusal) → (r ≡ refusal.Attribute → ⊥) → all_fit long s xs d vs ≡ misfit_at m → Marks long s xs d vs w marks (Err r) → all_fit long s xs d (vs ++ w ∷ []) ≡ misfit_at (option_or m (Some w.quote))
  fit_wrong None r y e (unlisted n) = absurd (y refl)
  fit_wrong None r y e (unfitting n k f) = fit_ends long s xs d vs w e f
  fit_wrong (Some q) r y e x = fit_refused long s xs d vs (w ∷ []) e

  listed_right : all_listed s xs d [] vs ≡ got tt → Marks long s xs d vs w marks (Ok tt) → (all_listed s xs d [] (vs ++ w ∷ []) ≡ got tt) × Marked s xs d (vs ++ w ∷ []) marks
  listed_right e (fitting n k f) = (listed_more s xs d vs w e n, k)

  listed_wrong : (r : Refusal) → (r ≡ refusal.Attribute → ⊥) → all_listed s xs d [] vs ≡ got tt → Marks long s xs d vs w marks (Err r) → (all_listed s xs d [] (vs ++ w ∷ []) ≡ got tt) × Marked s xs d (vs ++ w ∷ []) marks
  listed_wrong r y e (unlisted n) = absurd (y refl)
  listed_wrong r y e (unfitting n k f) = (listed_more s xs d vs w e n, k)

  listed_stop : all_listed s xs d [] vs ≡ got tt → Marks long s xs d vs w marks (Err refusal.Attribute) → all_listed s xs d [] (vs ++ w ∷ []) ≡ refused 20 w.at
  listed_stop e (unlisted n) = listed_ends s xs d vs w e n

-- The first k of those that are kept are listed and marked, and the first misfit among them is remembered.
record Goes (long : ℕ) (s : List ℕ) (xs : List Attribute) (d g : List ℕ) (k : ℕ) (marks : List ℕ) (misfit : Option ℕ) : Type 0 where
  listed : all_listed s xs d [] (kept_of g k) ≡ got tt
  marked : Marked s xs d (kept_of g k) marks
  fit : all_fit long s xs d (kept_of g k) ≡ misfit_at misfit

-- So under each list that the table has at b, if at first nothing was marked.
pub record Going (long : ℕ) (s lists : List ℕ) (b : ℕ) (d g before : List ℕ) (k : ℕ) (marks : List ℕ) (misfit : Option ℕ) : Type 0 where
  goes : (xs : List Attribute) → ListAt long s lists b xs → NamesDiffer s xs → ((j : ℕ) → j < length xs → get_or before (2 * j) 0 ≡ 0) → Goes long s xs d g k marks misfit

-- The k-th that is kept, as it is read.
pub kept_in_lem : (end : ℕ) (g : List ℕ) (n : ℕ) → GivenIn end g n → (k : ℕ) → k < n → (w : Written) → w ≡ kept_in g k → WrittenIn end w
kept_in_lem end g n f k h w e = subst (WrittenIn end) (sym e) (f k h)

kept_more : (g : List ℕ) (k : ℕ) → kept_of g (k + 1) ≡ kept_of g k ++ written_as (kept_in g k) ∷ []
unfolding kept_of
kept_more g k = rw (add-one k)

-- The misfit that is remembered stands within so many bytes.
pub misfit_more : {end : ℕ} (m : Option ℕ) (q : ℕ) → IfSome m (λ (p : ℕ). p ≤ end) → q ≤ end → IfSome (option_or m (Some q)) (λ (p : ℕ). p ≤ end)
misfit_more None q i h = h
misfit_more (Some p) q i h = i

pub misfit_within : {end q : ℕ} (m : Option ℕ) → IfSome m (λ (p : ℕ). p ≤ end) → m ≡ Some q → q ≤ end
misfit_within m i e = rw e at i

-- What is refused of those that a tag gives is so refused.
pub refused_attribute : (end : ℕ) (r : Refusal) → r ≡ refusal.Attribute → (at : ℕ) → at ≤ end → (f : Fault) → f ≡ fault_at r at → GivenFits end (Err f)
refused_attribute end r e at h f m = rw (m, e) (h, inl refl)

pub refused_value : (end at : ℕ) → at ≤ end → (f : Fault) → f ≡ fault_at refusal.Value at → GivenFits end (Err f)
refused_value end at h f m = rw m (h, inr refl)

pub check_given : (end from : ℕ) (f : Fault) → GivenFits end (Err f) → CheckFits end from (Err f)
check_given end from f g = inl g

-- What is refused among the first k is refused among all.
module _ (s : List ℕ) (xs : List Attribute) (d g : List ℕ) (k p : ℕ) (e : all_listed s xs d [] (kept_of g k) ≡ refused 20 p) where
  listed_on : (n : ℕ) → k ≤ n → all_listed s xs d [] (kept_of g n) ≡ refused 20 p
  unfolding kept_of
  listed_on zero h = let z : 0 ≡ k = omega arith in ap (λ (i : ℕ). all_listed s xs d [] (kept_of g i)) z ∙ e
  listed_on (suc n) h = by_last (ℕ_discrete k (suc n)) (listed_on n)
    where
      by_last : Dec (k ≡ suc n) → (k ≤ n → all_listed s xs d [] (kept_of g n) ≡ refused 20 p) → all_listed s xs d [] (kept_of g (suc n)) ≡ refused 20 p
      by_last (yes q) ih = ap (λ (i : ℕ). all_listed s xs d [] (kept_of g i)) (sym q) ∙ e
      by_last (no q) ih = listed_refused s xs d (kept_of g n) (written_as (kept_in g n) ∷ []) (ih (omega (arith, q)))

module _ (long : ℕ) (s lists : List ℕ) (b : ℕ) (d g before : List ℕ) where
  pub going_first : Going long s lists b d g before 0 before None
  unfolding kept_of all_listed all_fit given_for
  going_first = record { goes = λ xs a n z. record { listed = refl; marked = λ k h. z k h; fit = refl } }

  module _ (k : ℕ) (marks : List ℕ) (misfit : Option ℕ) (f : Going long s lists b d g before k marks misfit) (w : Written) (e : w ≡ kept_in g k) (after : List ℕ) where
    snoc : kept_of g k ++ written_as w ∷ [] ≡ kept_of g (k + 1)
    snoc = ap (λ (x : Written). kept_of g k ++ written_as x ∷ []) e ∙ sym (kept_more g k)

    -- What `mark` says of one more, whatever was marked before.
    abbrev pub Says : Result (Unit {0}) Refusal → Type 0
    Says r = (xs : List Attribute) (vs : List rules.Written) → ListAt long s lists b xs → NamesDiffer s xs → Marked s xs d vs marks → Marks long s xs d vs (written_as w) after r

    pub going_right : (r : Result (Unit {0}) Refusal) → ((f : Refusal) → r ≡ Err f → ⊥) → Says r → Going long s lists b d g before (k + 1) after misfit
    going_right (Err f) n m = absurd (n f refl)
    going_right (Ok _) n m = record { goes = goes }
      where
        goes : (xs : List Attribute) → ListAt long s lists b xs → NamesDiffer s xs → ((j : ℕ) → j < length xs → get_or before (2 * j) 0 ≡ 0) → Goes long s xs d g (k + 1) after misfit
        goes xs a n z =
            let o = f.goes xs a n z in
            let made = m xs (kept_of g k) a n o.marked in
            let (l, t) = listed_right long s xs d (kept_of g k) (written_as w) after o.listed made in
            record {
              listed = rw (← snoc) l;
              marked = subst (λ (vs : List rules.Written). Marked s xs d vs after) snoc t;
              fit = rw (← snoc) (fit_right long s xs d (kept_of g k) (written_as w) after misfit o.fit made);
            }

    pub going_wrong : (r : Refusal) → (r ≡ refusal.Attribute → ⊥) → Says (Err r) → Going long s lists b d g before (k + 1) after (option_or misfit (Some w.quote))
    going_wrong r y m = record { goes = goes }
      where
        goes : (xs : List Attribute) → ListAt long s lists b xs → NamesDiffer s xs → ((j : ℕ) → j < length xs → get_or before (2 * j) 0 ≡ 0) → Goes long s xs d g (k + 1) after (option_or misfit (Some w.quote))
        goes xs a n z =
            let o = f.goes xs a n z in
            let made = m xs (kept_of g k) a n o.marked in
            let (l, t) = listed_wrong long s xs d (kept_of g k) (written_as w) after r y o.listed made in
            record {
              listed = rw (← snoc) l;
              marked = subst (λ (vs : List rules.Written). Marked s xs d vs after) snoc t;
              fit = rw (← snoc) (fit_wrong long s xs d (kept_of g k) (written_as w) after misfit r y o.fit made);
            }

    pub going_stop : (r : Refusal) → r ≡ refusal.Attribute → Says (Err r) → (n : ℕ) → k < n → (xs : List Attribute) → ListAt long s lists b xs → NamesDiffer s xs → ((j : ℕ) → j < length xs → get_or before (2 * j) 0 ≡ 0)
        → Given long s xs d (kept_of g n) after (Err (fault_at r w.name))
    going_stop r y m n h xs a u z =
        let o = f.goes xs a u z in
        let l = listed_stop long s xs d (kept_of g k) (written_as w) after o.listed (rw y at (m xs (kept_of g k) a u o.marked)) in
        rw y (unlisted w.name (listed_on s xs d g (k + 1) w.name (rw (← snoc) l) n (omega arith)))

  module _ (k n : ℕ) (e : k ≡ n) (marks : List ℕ) (misfit : Option ℕ) (f : Going long s lists b d g before k marks misfit) (xs : List Attribute) (a : ListAt long s lists b xs) (u : NamesDiffer s xs) (z : (j : ℕ) → j < length xs → get_or before (2 * j) 0 ≡ 0) where
    pub going_misfit : {q : ℕ} → misfit ≡ Some q → Given long s xs d (kept_of g n) marks (Err (fault_at refusal.Value q))
    going_misfit {q} y =
        let o = f.goes xs a u z in
        unfitting q (rw (← e) o.listed) (rw (← e) (o.fit ∙ ap misfit_at y))

    pub going_end : misfit ≡ None → Given long s xs d (kept_of g n) marks (Ok tt)
    going_end y =
        let o = f.goes xs a u z in
        fitting (rw (← e) o.listed) (rw (← e) (o.fit ∙ ap misfit_at y)) (subst (λ (i : ℕ). Marked s xs d (kept_of g i) marks) e o.marked)
