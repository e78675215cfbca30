-- Each place of the document is at most one thing of one element.
use Rattle.std.specs.Prelude.{ℕ, ◌+◌, ◌≤◌, ◌<◌, ◌≡◌, refl, Bool, true, false, ◌⊎◌, List, [], ◌∷◌, ◌++◌, eqb}
use Rattle.std.proofs.Common.{arith, ◌∙◌, ap, inl, inr, ne_eqb, eqb-true}
use Rattle.rules.specs.Settings.{Settings}
use Rattle.rules.specs.TypeFile.{Element}
use Rattle.rules.specs.Decisions.{Decisions}
use Rattle.rules.specs.Settling.{State}
use Rattle.rules.specs.Records.{Line}
use Rattle.rules.specs.RecordEnds.{Thing, markup, boundary, record_end, datum, subelement, Contents, add, over_in, Fills}
use Rattle.record_laws.specs.Counts.{same}
use Rattle.record_laws.specs.Moves.{Step, opens, passes, closes, Moves, moves_keep, comes_moves}
use Rattle.record_laws.specs.Turns.{Turn, tags, markups, tens, dropped, ignored, takes, bytes, fills_keep}

-- How often p is the place of a byte among things, and in all contents.
abbrev pub place_of : ℕ → Thing → ℕ
place_of p markup = 0
place_of p boundary = 0
place_of p (record_end q) = same p q
place_of p (datum q) = same p q
place_of p subelement = 0

abbrev pub places : ℕ → List Thing → ℕ
places p [] = 0
places p (t ∷ ts) = place_of p t + places p ts

pub places_append : (p : ℕ) (x y : List Thing) → places p (x ++ y) ≡ places p x + places p y
places_append p [] y = omega arith
places_append p (t ∷ x) y = omega (arith, places_append p x y)

abbrev pub all_places : ℕ → List (List Thing) → ℕ
all_places p [] = 0
all_places p (c ∷ cs) = places p c + all_places p cs

abbrev pub places_in : ℕ → Contents → ℕ
places_in p k = places p k.current + all_places p k.around + all_places p k.ended

over_places : (p : ℕ) (around : List (List Thing)) (c : List Thing) (ended : List (List Thing)) → places_in p (over_in around c ended) ≡ places p c + all_places p around + all_places p ended
over_places p [] c ended = omega arith
over_places p (u ∷ around) c ended = omega arith

add_places : (p : ℕ) (t : Thing) (k : Contents) → places_in p (add t k) ≡ places_in p k + place_of p t
add_places p t k = omega (arith, places_append p k.current (t ∷ []))

step_places : (p n : ℕ) (z y : State) (k j : Contents) → Step z k y j → places_in p k ≡ n → places_in p j ≡ n
step_places p n z y k j (opens q m e b) h = omega (arith, places_append p k.current (subelement ∷ []))
step_places p n z y k j (passes q e f b v) h = omega (arith, places_append p k.current (subelement ∷ []))
step_places p n z y k j (closes u us e q c) h = omega (arith, over_places p k.around k.current k.ended)

-- Settling moves no byte.
pub moves_places : (p : ℕ) {z y : State} {k j : Contents} → Moves z k y j → places_in p j ≡ places_in p k
moves_places p {k = k} m = moves_keep (λ (x : State) (i : Contents). places_in p i ≡ places_in p k) (step_places p (places_in p k)) m refl

-- The things stand before `at`, each place once.
pub record Placed (at : ℕ) (k : Contents) : Type 0 where
  pub before : (p : ℕ) → at ≤ p → places_in p k ≡ 0
  pub once : (p : ℕ) → places_in p k ≤ 1

-- The bytes are the same, and reading is further on.
placed_same : {at : ℕ} (i : ℕ) (k j : Contents) → at ≤ i → ((p : ℕ) → places_in p j ≡ places_in p k) → Placed at k → Placed i j
placed_same i k j h e w = record { before = λ p l. e p ∙ w.before p (omega arith); once = λ p. omega (arith, e p, w.once p) }

same_not : (p q : ℕ) → q < p → same p q ≡ 0
unfolding same
same_not p q h = rw (ne_eqb p q (λ e. omega arith), same)

same_most : (p q : ℕ) → same p q ≤ 1
unfolding same
same_most p q = go (eqb p q)
  where
    go : (b : Bool) → elim b as (λ _. ℕ) [ true ↦ 1 | false ↦ 0 ] ≤ 1
    go true = omega arith
    go false = omega arith

pub same_split : (p q : ℕ) → (p ≡ q) ⊎ (same p q ≡ 0)
unfolding same
same_split p q = go (eqb p q) refl
  where
    go : (b : Bool) → eqb p q ≡ b → (p ≡ q) ⊎ ◌≡◌ {A = ℕ} (elim b as (λ _. ℕ) [ true ↦ 1 | false ↦ 0 ]) 0
    go true e = inl (eqb-true p q e)
    go false e = inr refl

-- The byte at `at` is a thing more.
placed_add : (at : ℕ) (t : Thing) (k j : Contents) → ((p : ℕ) → place_of p t ≡ same p at) → ((p : ℕ) → places_in p j ≡ places_in p k) → Placed at k → Placed (at + 1) (add t j)
placed_add at t k j s e w =
    record {
      before = λ p l. omega (arith, add_places p t j, s p, e p, w.before p (omega arith), same_not p at (omega arith));
      once = λ p. go p (same_split p at);
    }
  where
    go : (p : ℕ) → (p ≡ at) ⊎ (same p at ≡ 0) → places_in p (add t j) ≤ 1
    go p (inl f) = omega (arith, add_places p t j, s p, e p, w.before p (omega arith), same_most p at)
    go p (inr f) = omega (arith, add_places p t j, s p, e p, w.once p)

-- It holds in either edition.
module _ (c : Settings) (s : List ℕ) (es : List Element) (D : Decisions) (d : List ℕ) where
  turn_placed : (at i : ℕ) (l m : Line) (z y : State) (k j : Contents) → Turn c s es D d at l z k i m y j → Placed at k → Placed i j
  turn_placed at i l m z y k j (tags after t a h b) w = placed_same after k j (omega arith) (λ p. moves_places p (comes_moves t)) w
  turn_placed at i l m z y k j (markups after a h) w = placed_same after k j (omega arith) (λ p. omega (arith, add_places p markup k)) w
  turn_placed at i l m z y k j (tens b) w = placed_same (at + 1) k j (omega arith) (λ p. omega (arith, add_places p boundary k)) w
  turn_placed at i l m z y k j (dropped b f o) w = placed_add at (record_end at) k k (λ p. refl) (λ p. refl) w
  turn_placed at i l m z y k j (ignored f n q x r) w = stays r
    where
      stays : ◌⊎◌ (◌≡◌ {A = Contents} x k) (◌≡◌ {A = Contents} x (add boundary k)) → Placed (at + 1) x
      stays (inl e) = placed_same (at + 1) k x (omega arith) (λ p. ap (places_in p) e) w
      stays (inr e) = placed_same (at + 1) k x (omega arith) (λ p. ap (places_in p) e ∙ omega (arith, add_places p boundary k)) w
  turn_placed at i l m z y k j (takes b f o) w = placed_add at (record_end at) k k (λ p. refl) (λ p. refl) w
  turn_placed at i l m z y k j (bytes b t) w = placed_add at (datum at) k t.contents (λ p. refl) (λ p. moves_places p t.moves) w

  pub fills_placed : {at : ℕ} {l : Line} {z : State} {k : Contents} → Fills c s es D d at l z k → Placed at k
  fills_placed h = fills_keep (λ at l z k. Placed at k) (record { before = λ p l. refl; once = λ p. omega arith }) turn_placed h
