-- No byte 13 that would be data is left out: wherever reading stands at one in a document that is read to its end, it is a thing of an element.
use Rattle.std.specs.Prelude.{ℕ, suc, ◌+◌, ◌≤◌, ◌<◌, ◌≡◌, refl, true, ◌⊎◌, leb}
use Rattle.std.proofs.Common.{arith, sym, ◌∙◌, ap, ap₂, subst, inl, inr}
use Rattle.std.proofs.Math.Decide.{dec_lt}
use mathlib.Core.List.{List, [], ◌∷◌, ◌++◌, Memᴰ}
use Rattle.rules.specs.Settings.{Settings}
use Rattle.rules.specs.Bytes.{byte_at, RS, RE, STAGO}
use Rattle.rules.specs.Reading.{got}
use Rattle.rules.specs.TypeFile.{Element}
use Rattle.rules.specs.Document.{Piece}
use Rattle.rules.specs.Decisions.{pcdata, Decisions}
use Rattle.rules.specs.Settling.{State, fitting}
use Rattle.rules.specs.Records.{Line, line_after}
use Rattle.rules.specs.Reader.{Reached, piece_under, settle_piece}
use Rattle.rules.specs.RecordEnds.{Thing, markup, boundary, record_end, datum, subelement, Contents, add, over_in, contents_after, Fills, begins, goes}
use Rattle.rules_laws.specs.Holds.{got_one}
use Rattle.record_laws.specs.Counts.{same}
use Rattle.record_laws.specs.Kept.{same_one}
use Rattle.record_laws.specs.InEvents.{some_more}
use Rattle.record_laws.specs.Moves.{Step, opens, passes, closes, Moves, moves_keep, comes_moves}
use Rattle.record_laws.specs.Turns.{Turn, tags, markups, tens, dropped, ignored, takes, bytes, goes_turn}
use Rattle.record_laws.specs.Places.{place_of, places, same_split}

-- How often p is the place of a byte 13 that would be data.
abbrev end_of : ℕ → Thing → ℕ
end_of p markup = 0
end_of p boundary = 0
end_of p (record_end q) = same p q
end_of p (datum q) = 0
end_of p subelement = 0

abbrev pub ends : ℕ → List Thing → ℕ
ends p [] = 0
ends p (t ∷ ts) = end_of p t + ends p ts

ends_append : (p : ℕ) (x y : List Thing) → ends p (x ++ y) ≡ ends p x + ends p y
ends_append p [] y = omega arith
ends_append p (t ∷ x) y = omega (arith, ends_append p x y)

abbrev pub all_ends : ℕ → List (List Thing) → ℕ
all_ends p [] = 0
all_ends p (c ∷ cs) = ends p c + all_ends p cs

abbrev pub ends_in : ℕ → Contents → ℕ
ends_in p k = ends p k.current + all_ends p k.around + all_ends p k.ended

over_ends : (p : ℕ) (around : List (List Thing)) (c : List Thing) (ended : List (List Thing)) → ends_in p (over_in around c ended) ≡ ends p c + all_ends p around + all_ends p ended
over_ends p [] c ended = omega arith
over_ends p (u ∷ around) c ended = omega arith

add_ends : (p : ℕ) (t : Thing) (k : Contents) → ends_in p (add t k) ≡ ends_in p k + end_of p t
add_ends p t k = omega (arith, ends_append p k.current (t ∷ []))

step_ends : (p n : ℕ) (z y : State) (k j : Contents) → Step z k y j → ends_in p k ≡ n → ends_in p j ≡ n
step_ends p n z y k j (opens q m e b) h = omega (arith, ends_append p k.current (subelement ∷ []))
step_ends p n z y k j (passes q e f b v) h = omega (arith, ends_append p k.current (subelement ∷ []))
step_ends p n z y k j (closes u us e q c) h = omega (arith, over_ends p k.around k.current k.ended)

pub moves_ends : (p : ℕ) {z y : State} {k j : Contents} → Moves z k y j → ends_in p j ≡ ends_in p k
moves_ends p {k = k} m = moves_keep (λ (x : State) (i : Contents). ends_in p i ≡ ends_in p k) (step_ends p (ends_in p k)) m refl

-- Where one is counted it stands.
ends_stand : (p : ℕ) (ts : List Thing) → 1 ≤ ends p ts → (before : List Thing) × (after : List Thing) × (ts ≡ before ++ record_end p ∷ after)
ends_stand p [] h = absurd (omega arith)
ends_stand p (t ∷ ts) h = go t (ends_stand p ts) h
  where
    further : (t : Thing) → (before : List Thing) × (after : List Thing) × (ts ≡ before ++ record_end p ∷ after) → (before : List Thing) × (after : List Thing) × (t ∷ ts ≡ before ++ record_end p ∷ after)
    further t (b, a, e) = (t ∷ b, a, ap (λ l. t ∷ l) e)

    here : (q : ℕ) → (1 ≤ ends p ts → (before : List Thing) × (after : List Thing) × (ts ≡ before ++ record_end p ∷ after)) → 1 ≤ same p q + ends p ts → (p ≡ q) ⊎ (same p q ≡ 0) → (before : List Thing) × (after : List Thing) × (record_end q ∷ ts ≡ before ++ record_end p ∷ after)
    here q below i (inl e) = ([], ts, ap (λ x. record_end x ∷ ts) (sym e))
    here q below i (inr e) = further (record_end q) (below (omega arith))

    go : (t : Thing) → (1 ≤ ends p ts → (before : List Thing) × (after : List Thing) × (ts ≡ before ++ record_end p ∷ after)) → 1 ≤ end_of p t + ends p ts → (before : List Thing) × (after : List Thing) × (t ∷ ts ≡ before ++ record_end p ∷ after)
    go markup below i = further markup (below (omega arith))
    go boundary below i = further boundary (below (omega arith))
    go (record_end q) below i = here q below i (same_split p q)
    go (datum q) below i = further (datum q) (below (omega arith))
    go subelement below i = further subelement (below (omega arith))

pub record Stood (p : ℕ) (elements : List (List Thing)) : Type 0 where
  pub element : List Thing
  pub among : Memᴰ element elements
  pub before : List Thing
  pub after : List Thing
  pub stands : element ≡ before ++ record_end p ∷ after

pub all_stand : (p : ℕ) (cs : List (List Thing)) → 1 ≤ all_ends p cs → Stood p cs
all_stand p [] h = absurd (omega arith)
all_stand p (c ∷ cs) h = go (all_stand p cs) (some_more (ends p c) (all_ends p cs) h)
  where
    here : (before : List Thing) × (after : List Thing) × (c ≡ before ++ record_end p ∷ after) → Stood p (c ∷ cs)
    here (b, a, e) = record { element = c; among = Memᴰ.head refl; before = b; after = a; stands = e }

    later : Stood p cs → Stood p (c ∷ cs)
    later x = record { element = x.element; among = Memᴰ.tail x.among; before = x.before; after = x.after; stands = x.stands }

    go : (1 ≤ all_ends p cs → Stood p cs) → (1 ≤ ends p c) ⊎ (1 ≤ all_ends p cs) → Stood p (c ∷ cs)
    go below (inl i) = here (ends_stand p c i)
    go below (inr i) = later (below i)

pub ends_places : (p : ℕ) (ts : List Thing) → ends p ts ≤ places p ts
ends_places p [] = omega arith
ends_places p (t ∷ ts) = omega (arith, one t, ends_places p ts)
  where
    one : (t : Thing) → end_of p t ≤ place_of p t
    one markup = omega arith
    one boundary = omega arith
    one (record_end q) = omega arith
    one (datum q) = omega arith
    one subelement = omega arith

module _ (c : Settings) (s : List ℕ) (es : List Element) (D : Decisions) (d : List ℕ) where
  -- Pieces go forward, and forget none.
  turn_forward : (at i : ℕ) (l m : Line) (z y : State) (k j : Contents) → Turn c s es D d at l z k i m y j → at < i
  turn_forward at i l m z y k j (tags after t a h b) = h
  turn_forward at i l m z y k j (markups after a h) = h
  turn_forward at i l m z y k j (tens b) = omega arith
  turn_forward at i l m z y k j (dropped b f o) = omega arith
  turn_forward at i l m z y k j (ignored f n q x r) = omega arith
  turn_forward at i l m z y k j (takes b f o) = omega arith
  turn_forward at i l m z y k j (bytes b t) = omega arith

  turn_ends : (p at i : ℕ) (l m : Line) (z y : State) (k j : Contents) → Turn c s es D d at l z k i m y j → ends_in p k ≤ ends_in p j
  turn_ends p at i l m z y k j (tags after t a h b) = omega (arith, moves_ends p (comes_moves t))
  turn_ends p at i l m z y k j (markups after a h) = omega (arith, add_ends p markup k)
  turn_ends p at i l m z y k j (tens b) = omega (arith, add_ends p boundary k)
  turn_ends p at i l m z y k j (dropped b f o) = omega (arith, add_ends p (record_end at) k)
  turn_ends p at i l m z y k j (ignored f n q x r) = stays r
    where
      stays : ◌⊎◌ (◌≡◌ {A = Contents} x k) (◌≡◌ {A = Contents} x (add boundary k)) → ends_in p k ≤ ends_in p x
      stays (inl e) = omega (arith, ap (ends_in p) e)
      stays (inr e) = omega (arith, ap (ends_in p) e, add_ends p boundary k)
  turn_ends p at i l m z y k j (takes b f o) = omega (arith, add_ends p (record_end at) k)
  turn_ends p at i l m z y k j (bytes b t) = omega (arith, add_ends p (datum at) t.contents, moves_ends p t.moves)

  -- A byte 13 that would be data is a thing more.
  turn_here : (at i : ℕ) (l m : Line) (z y : State) (k j : Contents) → Turn c s es D d at l z k i m y j → byte_at d at ≡ RE → leb 1 (fitting s es D z.current pcdata) ≡ true → 1 ≤ ends_in at j
  turn_here at i l m z y k j (tags after t a h b) e g = absurd (let q : STAGO ≡ RE = sym a ∙ e in omega arith)
  turn_here at i l m z y k j (markups after a h) e g = absurd (let q : STAGO ≡ RE = sym a ∙ e in omega arith)
  turn_here at i l m z y k j (tens b) e g = absurd (let q : RS ≡ RE = sym b ∙ e in omega arith)
  turn_here at i l m z y k j (dropped b f o) e g = omega (arith, add_ends at (record_end at) k, same_one at)
  turn_here at i l m z y k j (ignored f n q x r) e g = absurd (let z : ◌≡◌ {A = ℕ} 0 1 = cc in omega arith)
  turn_here at i l m z y k j (takes b f o) e g = omega (arith, add_ends at (record_end at) k, same_one at)
  turn_here at i l m z y k j (bytes b t) e g = absurd (b e)

  -- Reading is one: after as many pieces it comes to the same.
  record Point : Type 0 where
    at : ℕ
    line : Line
    state : State
    contents : Contents

  abbrev point : ℕ → Line → State → Contents → Point
  point at l z k = record { at = at; line = l; state = z; contents = k }

  abbrev ComesTo : Point → Type 0
  ComesTo x = Fills c s es D d x.at x.line x.state x.contents

  abbrev steps : {at : ℕ} {l : Line} {z : State} {k : Contents} → Fills c s es D d at l z k → ℕ
  steps begins = 0
  steps (goes r h i u e) = suc (steps h)

  abbrev behind : Point → Piece → Reached → Point
  behind x p r = point r.at (line_after s es D d p x.at x.line x.state) r.state (contents_after s es D d p x.at x.state r.state x.contents)

  behind_one : (x y : Point) (p q : Piece) (r t : Reached) → x ≡ y → piece_under c s es d x.at x.line x.state.current ≡ got p → piece_under c s es d y.at y.line y.state.current ≡ got q
      → settle_piece s es D d p x.at x.state ≡ got r → settle_piece s es D d q y.at y.state ≡ got t → behind x p r ≡ behind y q t
  behind_one x y p q r t e u v f g =
      let a : p ≡ q = got_one (sym u ∙ ap (λ (w : Point). piece_under c s es d w.at w.line w.state.current) e ∙ v) in
      let b : r ≡ t = got_one (sym f ∙ ap₂ (λ (n : Piece) (w : Point). settle_piece s es D d n w.at w.state) a e ∙ g) in
      λ i. behind (e i) (a i) (b i)

  one_point : {a b : ℕ} {l m : Line} {z y : State} {k j : Contents} (f : Fills c s es D d a l z k) (g : Fills c s es D d b m y j) → steps f ≡ steps g → point a l z k ≡ point b m y j
  one_point begins begins e = refl
  one_point begins (goes r h i u q) e = absurd (omega arith)
  one_point (goes r h i u q) begins e = absurd (omega arith)
  one_point (goes {at} {l} {z} {k} {p} r h i u q) (goes {at = at'} {l = l'} {z = z'} {k = k'} {p = p'} r' h' i' u' q') e =
      behind_one (point at l z k) (point at' l' z' k') p p' r r' (one_point h h' (omega arith)) u u' q q'

  -- What reading came to before.
  record Before (n a : ℕ) (k : Contents) : Type 0 where
    here : Point
    fills : ComesTo here
    after : steps fills ≡ n
    before : here.at < a
    counted : byte_at d here.at ≡ RE → leb 1 (fitting s es D here.state.current pcdata) ≡ true → 1 ≤ ends_in here.at k

  earlier : {a : ℕ} {l : Line} {z : State} {k : Contents} (f : Fills c s es D d a l z k) (n : ℕ) → n < steps f → Before n a k
  earlier begins n h = absurd (omega arith)
  earlier (goes {at} {l} {z} {k} {p} r f i u e) n h = go (λ j. earlier f n j) (dec_lt n (steps f))
    where
      turn : Turn c s es D d at l z k r.at (line_after s es D d p at l z) r.state (contents_after s es D d p at z r.state k)
      turn = goes_turn c s es D d at l z k i u e

      forward : at < r.at
      forward = turn_forward at r.at l (line_after s es D d p at l z) z r.state k (contents_after s es D d p at z r.state k) turn

      further : Before n at k → Before n r.at (contents_after s es D d p at z r.state k)
      further b =
          record {
            here = b.here;
            fills = b.fills;
            after = b.after;
            before = omega (arith, b.before, forward);
            counted = λ x y. omega (arith, b.counted x y, turn_ends b.here.at at r.at l (line_after s es D d p at l z) z r.state k (contents_after s es D d p at z r.state k) turn);
          }

      go : (n < steps f → Before n at k) → Dec (n < steps f) → Before n r.at (contents_after s es D d p at z r.state k)
      go below (yes j) = further (below j)
      go below (no j) =
          record {
            here = point at l z k;
            fills = f;
            after = omega arith;
            before = forward;
            counted = λ x y. turn_here at r.at l (line_after s es D d p at l z) z r.state k (contents_after s es D d p at z r.state k) turn x y;
          }

  -- Where reading stood at p at such a byte and came further, the byte is counted.
  pub stood_counted : {p a : ℕ} {l m : Line} {z y : State} {k j : Contents} → Fills c s es D d p l z k → Fills c s es D d a m y j → p < a → byte_at d p ≡ RE → leb 1 (fitting s es D z.current pcdata) ≡ true → 1 ≤ ends_in p j
  stood_counted {p} {a} {l} {m} {z} {y} {k} {j} g f h b t = by_steps (dec_lt (steps g) (steps f)) (dec_lt (steps f) (steps g))
    where
      same_point : (x : Before (steps g) a j) → 1 ≤ ends_in p j
      same_point x =
          let e : x.here ≡ point p l z k = one_point x.fills g x.after in
          let q : x.here.at ≡ p = ap (λ (w : Point). w.at) e in
          subst (λ (n : ℕ). 1 ≤ ends_in n j) q (x.counted (ap (byte_at d) q ∙ b) (ap (λ (w : Point). leb 1 (fitting s es D w.state.current pcdata)) e ∙ t))

      too_far : Before (steps f) p k → ⊥
      too_far x = let q : x.here.at ≡ a = ap (λ (w : Point). w.at) (one_point x.fills f x.after) in omega (arith, x.before)

      by_steps : Dec (steps g < steps f) → Dec (steps f < steps g) → 1 ≤ ends_in p j
      by_steps (yes i) v = same_point (earlier f (steps g) i)
      by_steps (no i) (yes v) = absurd (too_far (earlier g (steps f) v))
      by_steps (no i) (no v) = let q : a ≡ p = ap (λ (w : Point). w.at) (one_point f g (omega arith)) in absurd (omega arith)
