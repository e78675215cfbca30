-- Laws of the open elements: what the methods do to the rules' state that they stand for, and what stays in range.
use Prim.Native.Nat.{ℕ, zero, suc, ◌+◌, ◌-◌, ◌≤◌, ◌<◌}
use Rattle.std.specs.Prelude.{◌≡◌, Bool, true, false, length, get_or, set, eqb}
use Rattle.std.proofs.Math.Path.{refl}
use Rattle.std.proofs.Common.{ap, ap₂, sym, ◌∙◌, subst, add-one, arith, eq-eqb, ne_eqb, length-set, get_or-set_same, get_or-set_other}
use mathlib.Core.List.{List, [], ◌∷◌}
use Rattle.std.proofs.Math.Decide.{ℕ_discrete}
use Rattle.std.proofs.lemmas.List.{length-replicate}
use Rattle.rules.specs.TypeFile.{Element}
use Rattle.rules.specs.Events.{Event}
use Rattle.rules.specs.Settling.{State, nothing_open, enter, shown, is_open}
use Rattle.rules.specs.Settling as rules
use Rattle.rules.specs.Bytes.{GRPGTCNT, TAGLVL, element_limit}
use Rattle.layout.specs.declared.Place.{Place}
use Rattle.layout.specs.declared.ElementNo.{ElementNo}
use Rattle.layout.specs.Typed.{place_no, element_no}
use Rattle.document_laws.specs.Decide.{is_complete_in, required_for, decided}
use Rattle.document_laws.specs.Moves.{state}
use Rattle.document_laws.specs.Moves as moves
use Rattle.and_groups.specs.Takes.{Elsewhere}
use Rattle.type_tables.specs.Tables.{complete_at, required_at, Declares, Tables}
use Rattle.type_tables.specs.Ranges.{required_small}
use Rattle.type_tables.specs.Marks.{entered_elsewhere, entered_fresh, fresh_complete, fresh_required}
use Rattle.open_elements.specs.declared.Entry.{Entry}
use Rattle.open_elements.specs.declared.OpenElements.{OpenElements}
use Rattle.open_elements.specs.Stands.{none, fresh, covered, opening, parent_of, ended, around_of, bare, Within, Ranged, Kept, AllKept, Stands, Marking, Taking}
use Rattle.rules.specs.Decisions.{start}

-- What was read of the rows makes the state that `opening` gives.
pub opening_by : (rows : List ℕ) (k : ElementNo) (o : OpenElements) {x : Entry} {c : Bool} {q : Place} → x ≡ covered o → c ≡ complete_at rows k.0 0 → q.0 ≡ required_at rows k.0 0
    → record { around = set o.around o.count x; count = o.count + 1; element = k; place = place_no 0; complete = c; required = q } ≡ opening rows k.0 o
opening_by rows k o e h l =
    λ i. record { around = set o.around o.count (e i); count = o.count + 1; element = k; place = place_no 0; complete = h i; required = place_no (l i) }

-- The parent's element, place and required place, as they were read, make the state that `ended` gives.
pub ended_by : (o : OpenElements) {e : ElementNo} {p q : Place} → e.0 ≡ (parent_of o).element → p.0 ≡ (parent_of o).place → q.0 ≡ (parent_of o).required
    → record { around = o.around; count = o.count - 1; element = e; place = p; complete = (parent_of o).complete; required = q } ≡ ended o
ended_by o h k l =
    λ i. record { around = o.around; count = o.count - 1; element = element_no (h i); place = place_no (k i); complete = (parent_of o).complete; required = place_no (l i) }

-- The place that a start shows

pub shown_document : (k p : ℕ) → k ≡ 0 → shown k p ≡ 0
shown_document k p e = rw (eq-eqb k 0 e, shown)

pub shown_other : (k p : ℕ) → (k ≡ 0 → ⊥) → shown k p ≡ p
shown_other k p n = rw (ne_eqb k 0 n, shown)

-- Whether an element is open

pub open_here : (x : ℕ) (o : rules.Open) (os : List rules.Open) → o.element ≡ x → is_open x (o ∷ os) ≡ true
unfolding is_open
open_here x o os e = rw (eq-eqb o.element x e, is_open)

pub open_past : (x : ℕ) (o : rules.Open) (os : List rules.Open) → (o.element ≡ x → ⊥) → is_open x (o ∷ os) ≡ is_open x os
unfolding is_open
open_past x o os n = rw (ne_eqb o.element x n, is_open)

pub open_none : (x : ℕ) → is_open x [] ≡ false
unfolding is_open
open_none x = refl

open_same : (x : ℕ) (o u : rules.Open) (os us : List rules.Open) → o.element ≡ u.element → is_open x os ≡ is_open x us → is_open x (o ∷ os) ≡ is_open x (u ∷ us)
unfolding is_open
open_same x o u os us e i = ap₂ {C = Bool} (λ n b. elim (eqb n x) [ true ↦ true | false ↦ b ]) e i

around_of_less : (a : List Entry) (n : ℕ) → 1 ≤ n → around_of a n ≡ moves.fresh (get_or a (n - 1) none).element ∷ around_of a (n - 1)
around_of_less a zero l = absurd (omega arith)
around_of_less a (suc n) l = let e : suc n - 1 ≡ n = omega arith in rw e

-- The last of the first i entries, looked at.
pub open_entry : (x : ℕ) (a : List Entry) (i : ℕ) → 1 ≤ i → (get_or a (i - 1) none).element ≡ x → is_open x (around_of a i) ≡ true
open_entry x a i l e = ap (is_open x) (around_of_less a i l) ∙ open_here x (moves.fresh (get_or a (i - 1) none).element) (around_of a (i - 1)) e

pub open_further : (x : ℕ) (a : List Entry) (i : ℕ) → 1 ≤ i → ((get_or a (i - 1) none).element ≡ x → ⊥) → is_open x (around_of a i) ≡ is_open x (around_of a (i - 1))
open_further x a i l n = ap (is_open x) (around_of_less a i l) ∙ open_past x (moves.fresh (get_or a (i - 1) none).element) (around_of a (i - 1)) n

-- What stands for a state of the rules

module _ (es : List Element) (M begun : List ℕ) (a : List Entry) where
  -- Elements that are open have the same numbers, from the innermost outwards.
  all_open : (x n : ℕ) (os : List rules.Open) → AllKept es M begun a n os → is_open x (around_of a n) ≡ is_open x os
  unfolding is_open
  all_open x zero [] h = refl
  all_open x zero (o ∷ os) h = absurd h
  all_open x (suc n) [] h = absurd h
  all_open x (suc n) (o ∷ os) h = open_same x (moves.fresh (get_or a n none).element) o (around_of a n) os (sym h.0.entered.number) (all_open x n os h.1)

  all_length : (n : ℕ) (os : List rules.Open) → AllKept es M begun a n os → length os ≡ n
  all_length zero [] h = refl
  all_length zero (o ∷ os) h = absurd h
  all_length (suc n) [] h = absurd h
  all_length (suc n) (o ∷ os) h = ap suc (all_length n os h.1)

  -- The innermost of those around the current one, and the others.
  all_first : (n : ℕ) (u : rules.Open) (os : List rules.Open) → AllKept es M begun a n (u ∷ os) → (1 ≤ n) × Kept es M begun (n - 1) (get_or a (n - 1) none) u × AllKept es M begun a (n - 1) os
  all_first zero u os h = absurd h
  all_first (suc n) u os h = let e : suc n - 1 ≡ n = omega arith in (omega arith, rw e h.0, rw e h.1)

  -- What is written further in leaves them.
  all_set : (k : ℕ) (x : Entry) (n : ℕ) (os : List rules.Open) → n ≤ k → AllKept es M begun a n os → AllKept es M begun (set a k x) n os
  all_set k x zero [] l h = tt
  all_set k x zero (o ∷ os) l h = absurd h
  all_set k x (suc n) [] l h = absurd h
  all_set k x (suc n) (o ∷ os) l h = (rw (get_or-set_other a k n x none (λ e. omega arith)) h.0, all_set k x n os (omega arith) h.1)

  -- So does what begins at a level further in.
  all_elsewhere : {s rows places facts : List ℕ} → Tables s es rows places facts M → {level : ℕ} (after : List ℕ) → Elsewhere level begun after → (n : ℕ) (os : List rules.Open) → n ≤ level → AllKept es M begun a n os → AllKept es M after a n os
  all_elsewhere tables after other zero [] l h = tt
  all_elsewhere tables after other zero (o ∷ os) l h = absurd h
  all_elsewhere tables after other (suc n) [] l h = absurd h
  all_elsewhere tables after other (suc n) (o ∷ os) l h =
      let k = h.0 in (
        record {
          entered = entered_elsewhere tables k.entered other (λ e. omega arith);
          complete = k.complete;
          required = k.required;
          document = k.document;
          inner = k.inner;
        },
        all_elsewhere tables after other n os (omega arith) h.1,
      )

-- Where one is open, the current one has a parent, which is the current one when that has ended.
pub record Around (es : List Element) (M begun : List ℕ) (o : OpenElements) (z : State) : Type 0 where
  pub parent : rules.Open
  pub others : List rules.Open
  pub are : z.around ≡ parent ∷ others
  pub number : parent.element ≡ (ended o).element.0
  pub stands : (ev : List Event) → Stands es M begun (ended o) (state parent others ev)

module _ {es : List Element} {M begun : List ℕ} {o : OpenElements} {z : State} (h : Stands es M begun o z) where
  pub stands_open : (x : ℕ) → is_open x (bare o) ≡ is_open x (z.current ∷ z.around)
  stands_open x = open_same x (moves.fresh o.element.0) z.current (around_of o.around o.count) z.around (sym h.current.entered.number) (all_open es M begun o.around x o.count z.around h.around)

  -- As many are open as stand around the current one.
  pub stands_deep : length z.around ≡ o.count
  stands_deep = all_length es M begun o.around o.count z.around h.around

  -- The marks of the current one, as the rules ask for them.
  pub stands_required : (s : List ℕ) → o.required.0 ≡ rules.required_place s es (decided s es) z.current
  stands_required s = rw h.current.entered.number h.current.required

  -- Where one is open, the current one is an element, and not the document itself.
  pub stands_element : 1 ≤ o.count → 1 ≤ o.element.0
  stands_element l = h.current.inner l

  -- It is one of the type.
  pub stands_declared : 1 ≤ o.count → Declares es (start o.element.0)
  stands_declared l = (stands_element l, h.current.entered.declared)

  pub stands_ended : (u : rules.Open) (os : List rules.Open) → z.around ≡ u ∷ os → (ev : List Event) → Stands es M begun (ended o) (state u os ev)
  stands_ended u os e ev =
      let (l, x, y) = all_first es M begun o.around o.count u os (subst (λ (us : List rules.Open). AllKept es M begun o.around o.count us) e h.around) in
      record { whole = h.whole; few = omega (arith, h.few); current = x; around = y }

  pub stands_around : 1 ≤ o.count → Around es M begun o z
  stands_around l = by_around z.around refl
    where
      by_around : (os : List rules.Open) → z.around ≡ os → Around es M begun o z
      by_around [] e = absurd (omega (arith, stands_deep, ap (λ (us : List rules.Open). length us) e))
      by_around (u ∷ os) e =
          record { parent = u; others = os; are = e; number = (stands_ended u os e []).current.entered.number; stands = stands_ended u os e }

  -- Nothing is around the current one where none is open.
  pub stands_alone : o.count ≡ 0 → z.around ≡ []
  stands_alone e = by_around z.around refl
    where
      by_around : (os : List rules.Open) → z.around ≡ os → z.around ≡ []
      by_around [] i = i
      by_around (u ∷ os) i = absurd (omega (arith, stands_deep, ap (λ (us : List rules.Open). length us) i))

  -- Events are noted elsewhere.
  pub stands_noted : (ev : List Event) → Stands es M begun o (state z.current z.around ev)
  stands_noted ev = record { whole = h.whole; few = h.few; current = h.current; around = h.around }

  -- An element is opened in the current one.
  pub stands_opening : {s rows places facts : List ℕ} → Tables s es rows places facts M → (k : ℕ) → o.count < TAGLVL → 1 ≤ k → k ≤ length es → Stands es M begun (opening rows k o) (enter k z)
  stands_opening {rows = rows} tables k l some there =
      record {
        whole = simp length-set h.whole;
        few = omega arith;
        current =
            record {
              entered = entered_fresh there;
              complete = fresh_complete tables there;
              required = fresh_required tables there;
              document = λ e. absurd (omega arith);
              inner = λ i. some;
            };
        around =
            rw (add-one o.count) (
              rw (get_or-set_same o.around o.count (covered o) none (omega (arith, h.whole))) h.current,
              all_set es M begun o.around o.count (covered o) o.count z.around (omega arith) h.around,
            );
      }

-- The place is taken where its marks are made: the elements around have their bits at other levels.
pub taking_by : {rows M before after : List ℕ} (o : OpenElements) {p : Place} {c : Bool} {q : Place} → Marking rows M before o.count o.element.0 o.place.0 p.0 after c q.0
    → Taking rows M before p.0 o (record { around = o.around; count = o.count; element = o.element; place = p; complete = c; required = q }) after
taking_by {M = M} {before = before} {after = after} o m =
    record {
      around = refl;
      count = refl;
      element = refl;
      place = refl;
      small = m.small;
      whole = m.whole;
      elsewhere = m.elsewhere;
      stands = λ s es places facts tables z h can.
          let (entered, complete, required) = m.marks s es places facts tables z.current h.current.entered can in
          record {
            whole = h.whole;
            few = h.few;
            current = record { entered = entered; complete = complete; required = required; document = h.current.document; inner = h.current.inner };
            around = all_elsewhere es M before o.around tables after m.elsewhere o.count z.around (omega arith) h.around;
          };
    }

-- Nothing is open: the document itself is not complete, and requires its one place.
pub stands_fresh : (es : List Element) (M begun : List ℕ) → Stands es M begun fresh nothing_open
unfolding is_complete_in required_for
stands_fresh es M begun =
    record {
      whole = length-replicate TAGLVL none;
      few = omega arith;
      current = record { entered = entered_fresh (omega arith); complete = refl; required = refl; document = λ e. refl; inner = λ l. absurd (omega arith) };
      around = tt;
    }

-- What stays in range, whatever the tables hold

pub ranged_fresh : Ranged fresh
ranged_fresh =
    record {
      whole = length-replicate TAGLVL none;
      few = omega arith;
      element = omega arith;
      place = omega arith;
      required = omega arith;
      kept = λ k l. absurd (omega arith);
    }

pub ranged_taking : {rows M before after : List ℕ} {p : ℕ} {o r : OpenElements} → Taking rows M before p o r after → Ranged o → p ≤ GRPGTCNT → Ranged r
ranged_taking t h l =
    record {
      whole = rw t.around h.whole;
      few = rw t.count h.few;
      element = rw t.element h.element;
      place = rw t.place l;
      required = t.small;
      kept = rw (t.around, t.count) h.kept;
    }

-- What is kept of the current element is in range, and what was kept before stays.
within_set : (a : List Entry) (n : ℕ) (x : Entry) → n < length a → Within x → ((k : ℕ) → k < n → Within (get_or a k none)) → (k : ℕ) → k < n + 1 → Within (get_or (set a n x) k none)
within_set a n x l m h k i = by_place (ℕ_discrete k n)
  where
    by_place : Dec (k ≡ n) → Within (get_or (set a n x) k none)
    by_place (yes e) = rw (e, get_or-set_same a n x none l) m
    by_place (no e) = rw (get_or-set_other a n k x none e) (h k (omega arith))

pub ranged_opening : (rows : List ℕ) (k : ℕ) {o : OpenElements} → Ranged o → o.count < TAGLVL → k ≤ element_limit → Ranged (opening rows k o)
ranged_opening rows k {o} h l few =
    record {
      whole = simp length-set h.whole;
      few = omega arith;
      element = few;
      place = omega arith;
      required = required_small rows k 0;
      kept =
          within_set o.around o.count (covered o) (omega (arith, h.whole)) record { element = h.element; place = h.place; required = h.required } h.kept;
    }

pub ranged_ended : {o : OpenElements} → Ranged o → 1 ≤ o.count → Ranged (ended o)
ranged_ended {o} h l =
    let parent = h.kept (o.count - 1) (omega arith) in
    record {
      whole = h.whole;
      few = omega (arith, h.few);
      element = parent.element;
      place = parent.place;
      required = parent.required;
      kept = λ k i. h.kept k (omega arith);
    }
