-- The rules settle one answer of the judge, and what each such answer is.
use Rattle.std.specs.Prelude.{ℕ, ◌-◌, ◌*◌, ◌<◌, ◌≤◌, ◌≡◌, refl, true, false, ◌⊎◌, ◌↔◌, length}
use Rattle.std.proofs.Common.{sym, ap, ◌∙◌, true≢false, inl, inr, ⊎_elim, arith}
use mathlib.Core.List.{List, Memᴰ}
use Rattle.std.proofs.lemmas.List.{length-replicate}
use Rattle.rules.specs.Settings.{Settings, is_offered}
use Rattle.rules.specs.Bytes.{allowed, span, type_limit}
use Rattle.rules.specs.Lent.{Lent, standing, room, filled_with, zeroed}
use Rattle.rules.specs.Reading.{Reading, refused, got}
use Rattle.rules.specs.Walk.{Group, Begins}
use Rattle.rules.specs.Ambiguity.{SpellSame, Ambiguous, PairAtFault, FirstPair}
use Rattle.rules.specs.TypeFile.{Place, Content, empty, model, Element, type_file}
use Rattle.rules.specs.Judge.{place_at, same_place, Answer, refusal, acceptance, Unambiguous, AllUnambiguous, PairStandsAt, FirstAmbiguous, here, later, first_repeated, records, Legible, Refuses, not_offered, too_long, not_allowed, malformed, repeated, ambiguous, no_room, Accepts, Judged, refuses, accepts, record_width}
use Rattle.numbers.specs.Stores.{records_length, lent_length}
use Rattle.rules_laws.specs.Definitions.{IsFileNumber}
use Rattle.rules_laws.specs.Within.{ContentIn, all_mem, place_at_in, type_file_within, type_file_elements}
use Rattle.and_laws.specs.Ambiguous.{ambiguous_pair, pair_ambiguous, unambiguous_equal, first_pair_unique}
use Rattle.rules_laws.specs.Names.{same_place_refl, same_place_sym}
use Rattle.type_laws.specs.Members.{type_file_repeated}
use Rattle.document_laws.specs.Answers.{both}

-- The first model with a pair at fault.

module _ (s : List ℕ) where
  stands_at_fault : (c : Content) (k p q : ℕ) → PairStandsAt s c k p q → Unambiguous s c → ⊥
  stands_at_fault empty k p q w u = w
  stands_at_fault (model g ps n) k p q w u = u p q w.0.0

  stands_one : (c : Content) (k p q j a b : ℕ) → PairStandsAt s c k p q → PairStandsAt s c j a b → (k ≡ j) × (p ≡ a) × (q ≡ b)
  stands_one empty k p q j a b v w = absurd v
  stands_one (model g ps n) k p q j a b (f, x) (h, y) =
      let (pa, qb) = first_pair_unique (same_place s ps) g p q a b f h in
      (x ∙ ap (λ (i : ℕ). (place_at ps (i - 1)).at) qb ∙ sym y, pa, qb)

  stands_in : (c : Content) (k p q : ℕ) → ContentIn s c → PairStandsAt s c k p q → k ≤ length s
  stands_in empty k p q i w = absurd w
  stands_in (model g ps n) k p q i w = rw w.1 (place_at_in i.places (q - 1))

  pub stands_model : (c : Content) (k p q : ℕ) → PairStandsAt s c k p q
      → (g : Group) × (ps : List Place) × (n : ℕ) × (c ≡ model g ps n) × FirstPair (same_place s ps) g p q × (k ≡ (place_at ps (q - 1)).at)
  stands_model empty k p q w = absurd w
  stands_model (model g ps n) k p q (f, x) = (g, ps, n, refl, f, x)

  pub first_all : {k p q : ℕ} {es : List Element} → FirstAmbiguous s k p q es → AllUnambiguous s es → ⊥
  first_all {k} {p} {q} (here {e} w) u = stands_at_fault e.content k p q w u.0
  first_all (later v f) u = first_all f u.1

  pub first_one : {k p q j a b : ℕ} {es : List Element} → FirstAmbiguous s k p q es → FirstAmbiguous s j a b es → (k ≡ j) × (p ≡ a) × (q ≡ b)
  first_one {k} {p} {q} {j} {a} {b} (here {e} v) (here w) = stands_one e.content k p q j a b v w
  first_one {k} {p} {q} (here {e} v) (later u f) = absurd (stands_at_fault e.content k p q v u)
  first_one {j} {a} {b} (later {e} u f) (here w) = absurd (stands_at_fault e.content j a b w u)
  first_one (later u f) (later v h) = first_one f h

  first_stands : {k p q : ℕ} {es : List Element} → FirstAmbiguous s k p q es → (e : Element) × Memᴰ e es × PairStandsAt s e.content k p q
  first_stands (here {e} w) = (e, Memᴰ.head refl, w)
  first_stands (later u f) =
      let (e, m, w) = first_stands f in
      (e, Memᴰ.tail m, w)

  pub first_in : (c : Settings) {k p q : ℕ} {es : List Element} → FirstAmbiguous s k p q es → type_file c.name_length s ≡ got es → k ≤ length s
  first_in c {k} {p} {q} {es} f r =
      let (e, m, w) = first_stands f in
      stands_in e.content k p q (all_mem (type_file_elements c.name_length s es r).1.each m).content w

  all_content : {e : Element} {es : List Element} → AllUnambiguous s es → Memᴰ e es → Unambiguous s e.content
  all_content u (Memᴰ.head e) = rw e u.0
  all_content u (Memᴰ.tail m) = all_content u.1 m

-- Models by demand 3, and their pairs at fault.

module _ (s : List ℕ) (g : Group) (ps : List Place) where
  pub model_exactly : Ambiguous (same_place s ps) g ↔ ((p : ℕ) × (q : ℕ) × PairAtFault (same_place s ps) g p q)
  model_exactly =
      (ambiguous_pair (same_place s ps) g (same_place_sym s ps), λ (p, q, f). pair_ambiguous (same_place s ps) g (λ i h. same_place_refl s ps i) p q f)

  -- The group g is the model of an element e of es, where no model has a pair at fault.
  module _ {es : List Element} {e : Element} {n : ℕ} (all : AllUnambiguous s es) (m : Memᴰ e es) (c : e.content ≡ model g ps n) where
    no_pair : (p q : ℕ) → PairAtFault (same_place s ps) g p q → ⊥
    no_pair = rw c at (all_content s all m)

    pub not_ambiguous : Ambiguous (same_place s ps) g → ⊥
    not_ambiguous x =
        let (p, q, f) = model_exactly.0 x in
        no_pair p q f

    pub names_alone : (u v : List ℕ) → Begins g u → Begins g v → SpellSame (same_place s ps) u v → u ≡ v
    names_alone = unambiguous_equal (same_place s ps) g (same_place_sym s ps) no_pair

pub first_model : {s : List ℕ} {k p q : ℕ} {es : List Element} → FirstAmbiguous s k p q es
    → (g : Group) × (ps : List Place) × ((e : Element) × (n : ℕ) × Memᴰ e es × (e.content ≡ model g ps n)) × Ambiguous (same_place s ps) g
first_model {s} {k} {p} {q} f =
    let (e, m, w) = first_stands s f in
    let (g, ps, n, c, x, y) = stands_model s e.content k p q w in
    (g, ps, (e, n, m, c), (model_exactly s g ps).1 (p, q, x.0))

-- What the judge promises of a legible type, by what its reading gives.
data Read (l : Lent) (s before : List ℕ) (a : Answer) (after : List ℕ) : Reading (List Element) → Type 0 where
  bad : {n k : ℕ} → a ≡ refusal n k 0 0 → after ≡ zeroed before → Read l s before a after (refused n k)
  again : {es : List Element} → 1 ≤ first_repeated es → a ≡ refusal 25 (first_repeated es) 0 0 → after ≡ zeroed before → Read l s before a after (got es)
  clash : {es : List Element} → first_repeated es ≡ 0 → (k p q : ℕ) → FirstAmbiguous s k p q es → a ≡ refusal 9 k p q → after ≡ zeroed before → Read l s before a after (got es)
  tight : {es : List Element} → first_repeated es ≡ 0 → AllUnambiguous s es → room l before < record_width * length es → a ≡ refusal 19 0 0 0 → after ≡ zeroed before → Read l s before a after (got es)
  enough : {es : List Element} → first_repeated es ≡ 0 → AllUnambiguous s es → record_width * length es ≤ room l before → a ≡ acceptance (length es) → after ≡ filled_with (standing l (records es)) before → Read l s before a after (got es)

module _ {l : Lent} {s before : List ℕ} where
  read_one : {a b : Answer} {after other : List ℕ} {r : Reading (List Element)} → Read l s before a after r → Read l s before b other r → (a ≡ b) × (after ≡ other)
  read_one (bad e z) (bad f y) = (e ∙ sym f, z ∙ sym y)
  read_one (again o e z) (again v f y) = (e ∙ sym f, z ∙ sym y)
  read_one (again o e z) (clash v j i l w f y) = absurd (omega arith)
  read_one (again o e z) (tight v u h f y) = absurd (omega arith)
  read_one (again o e z) (enough v u h f y) = absurd (omega arith)
  read_one (clash o k p q x e z) (again v f y) = absurd (omega arith)
  read_one (clash o k p q x e z) (clash v j i l w f y) =
      let (v, d, g) = first_one s x w in
      (cc, z ∙ sym y)
  read_one (clash o k p q x e z) (tight v u h f y) = absurd (first_all s x u)
  read_one (clash o k p q x e z) (enough v u h f y) = absurd (first_all s x u)
  read_one (tight o u h e z) (again v f y) = absurd (omega arith)
  read_one (tight o u h e z) (clash v j i l w f y) = absurd (first_all s w u)
  read_one (tight o u h e z) (tight v w l f y) = (e ∙ sym f, z ∙ sym y)
  read_one (tight o u h e z) (enough v w l f y) = absurd (omega arith)
  read_one (enough o u h e z) (again v f y) = absurd (omega arith)
  read_one (enough o u h e z) (clash v j i l w f y) = absurd (first_all s w u)
  read_one (enough o u h e z) (tight v w l f y) = absurd (omega arith)
  read_one (enough o u h e z) (enough v w l f y) = (e ∙ sym f, z ∙ sym y)

module _ {l : Lent} {c : Settings} {s before : List ℕ} where
  -- At each stage of the order there is one way to go on.

  when_not_offered : {a : Answer} {after : List ℕ} → is_offered c ≡ false → Judged l c s before a after → (a ≡ refusal 24 0 0 0) × (after ≡ zeroed before)
  when_not_offered h (refuses (not_offered o e) z) = (e, z)
  when_not_offered h (refuses (too_long o l e) z) = absurd (true≢false (sym o ∙ h))
  when_not_offered h (refuses (not_allowed o l d e) z) = absurd (true≢false (sym o ∙ h))
  when_not_offered h (refuses (malformed l n k r e) z) = absurd (true≢false (sym l.offered ∙ h))
  when_not_offered h (refuses (repeated l es r v e) z) = absurd (true≢false (sym l.offered ∙ h))
  when_not_offered h (refuses (ambiguous l es r v k p q f e) z) = absurd (true≢false (sym l.offered ∙ h))
  when_not_offered h (refuses (no_room l es r v u f e) z) = absurd (true≢false (sym l.offered ∙ h))
  when_not_offered h (accepts es w f e z) = absurd (true≢false (sym w.legible.offered ∙ h))

  when_long : {a : Answer} {after : List ℕ} → is_offered c ≡ true → type_limit < length s → Judged l c s before a after → (a ≡ refusal 1 0 0 0) × (after ≡ zeroed before)
  when_long u h (refuses (not_offered o e) z) = absurd (true≢false (sym u ∙ o))
  when_long u h (refuses (too_long o l e) z) = (e, z)
  when_long u h (refuses (not_allowed o l d e) z) = absurd (omega arith)
  when_long u h (refuses (malformed l n k r e) z) = absurd (omega arith)
  when_long u h (refuses (repeated l es r v e) z) = absurd (omega arith)
  when_long u h (refuses (ambiguous l es r v k p q f e) z) = absurd (omega arith)
  when_long u h (refuses (no_room l es r v w f e) z) = absurd (omega arith)
  when_long u h (accepts es w f e z) = absurd (omega arith)

  when_dirty : {a : Answer} {after : List ℕ} → is_offered c ≡ true → length s ≤ type_limit → span allowed s < length s → Judged l c s before a after → (a ≡ refusal 2 (span allowed s) 0 0) × (after ≡ zeroed before)
  when_dirty u h d (refuses (not_offered o e) z) = absurd (true≢false (sym u ∙ o))
  when_dirty u h d (refuses (too_long o l e) z) = absurd (omega arith)
  when_dirty u h d (refuses (not_allowed o l x e) z) = (e, z)
  when_dirty u h d (refuses (malformed l n k r e) z) = absurd (omega arith)
  when_dirty u h d (refuses (repeated l es r v e) z) = absurd (omega arith)
  when_dirty u h d (refuses (ambiguous l es r v k p q f e) z) = absurd (omega arith)
  when_dirty u h d (refuses (no_room l es r v w f e) z) = absurd (omega arith)
  when_dirty u h d (accepts es w f e z) = absurd (omega arith)

  when_legible : {a : Answer} {after : List ℕ} → Legible c s → Judged l c s before a after → Read l s before a after (type_file c.name_length s)
  when_legible h (refuses (not_offered o e) z) = absurd (true≢false (sym h.offered ∙ o))
  when_legible h (refuses (too_long o l e) z) = absurd (omega arith)
  when_legible h (refuses (not_allowed o l d e) z) = absurd (omega arith)
  when_legible h (refuses (malformed l n k r e) z) = rw r (bad e z)
  when_legible h (refuses (repeated l es r v e) z) = rw r (again v e z)
  when_legible h (refuses (ambiguous l es r v k p q f e) z) = rw r (clash v k p q f e z)
  when_legible h (refuses (no_room l es r v u f e) z) = rw r (tight v u f e z)
  when_legible h (accepts es w f e z) = rw w.elements (enough w.unrepeated w.unambiguous f e z)

  -- Two answers to one type are the same.
  pub settled_one : {a b : Answer} {after other : List ℕ} → Judged l c s before a after → Judged l c s before b other → (a ≡ b) × (after ≡ other)
  settled_one (refuses (not_offered o e) z) y = both (e, z) (when_not_offered o y)
  settled_one (refuses (too_long o l e) z) y = both (e, z) (when_long o l y)
  settled_one (refuses (not_allowed o l d e) z) y = both (e, z) (when_dirty o l d y)
  settled_one (refuses (malformed l n k r e) z) y = read_one (rw r (bad e z)) (when_legible l y)
  settled_one (refuses (repeated l es r v e) z) y = read_one (rw r (again v e z)) (when_legible l y)
  settled_one (refuses (ambiguous l es r v k p q f e) z) y = read_one (rw r (clash v k p q f e z)) (when_legible l y)
  settled_one (refuses (no_room l es r v u f e) z) y = read_one (rw r (tight v u f e z)) (when_legible l y)
  settled_one (accepts es w f e z) y = read_one (rw w.elements (enough w.unrepeated w.unambiguous f e z)) (when_legible w.legible y)

  pub settled_refuses : {a : Answer} {after : List ℕ} → Judged l c s before a after → (a.number ≡ 0 → ⊥) → Refuses c s (room l before) a × (after ≡ zeroed before)
  settled_refuses (refuses r z) h = (r, z)
  settled_refuses (accepts es w f e z) h = absurd (h (rw e))

-- The numbers that a type may be refused by, but for 19; those of a type file are among them, and are none that the order gives apart.
abbrev pub TypeNumber : ℕ → Type 0
TypeNumber n = ((1 ≤ n) × (n ≤ 10)) ⊎ ((n ≡ 20) ⊎ ((n ≡ 22) ⊎ ((24 ≤ n) × (n ≤ 25))))

pub file_number : {n : ℕ} → IsFileNumber n → TypeNumber n
file_number (inl x) = inl (omega arith)
file_number (inr (inl e)) = inl (omega arith)
file_number (inr (inr (inl e))) = inr (inl e)
file_number (inr (inr (inr e))) = inr (inr (inl e))

abbrev pub Apart : ℕ → Type 0
Apart n = (n ≡ 9 → ⊥) × (n ≡ 19 → ⊥) × (24 ≤ n → ⊥)

pub file_apart : {n : ℕ} → IsFileNumber n → Apart n
file_apart (inl x) = (λ e. omega arith, λ e. omega arith, λ e. omega arith)
file_apart (inr (inl x)) = (λ e. omega arith, λ e. omega arith, λ e. omega arith)
file_apart (inr (inr (inl x))) = (λ e. omega arith, λ e. omega arith, λ e. omega arith)
file_apart (inr (inr (inr x))) = (λ e. omega arith, λ e. omega arith, λ e. omega arith)

pub type_some : {n : ℕ} → TypeNumber n → n ≡ 0 → ⊥
type_some (inl x) e = omega arith
type_some (inr (inl x)) e = omega arith
type_some (inr (inr (inl x))) e = omega arith
type_some (inr (inr (inr x))) e = omega arith

-- What a refusal says.
module _ {c : Settings} {s : List ℕ} {room : ℕ} {a : Answer} where
  pub refuses_named : Refuses c s room a
      → (n : ℕ) × (k : ℕ) × (p : ℕ) × (q : ℕ) × (a ≡ refusal n k p q) × ((n ≡ 19) ⊎ TypeNumber n) × (k ≤ length s) × ((n ≡ 9 → ⊥) → (p ≡ 0) × (q ≡ 0))
  refuses_named (not_offered o e) = (24, 0, 0, 0, e, inr (inr (inr (inr (omega arith)))), omega arith, λ h. omega arith)
  refuses_named (too_long o l e) = (1, 0, 0, 0, e, inr (inl (omega arith)), omega arith, λ h. omega arith)
  refuses_named (not_allowed o l d e) = (2, span allowed s, 0, 0, e, inr (inl (omega arith)), omega arith, λ h. omega arith)
  refuses_named (malformed l n k r e) =
      let (i, b) = type_file_within c.name_length s n k r in
      (n, k, 0, 0, e, inr (file_number i), b, λ h. omega arith)
  refuses_named (repeated l es r v e) = (25, first_repeated es, 0, 0, e, inr (inr (inr (inr (omega arith)))), type_file_repeated c.name_length s es r, λ h. omega arith)
  refuses_named (ambiguous l es r v k p q f e) = (9, k, p, q, e, inr (inl (omega arith)), first_in s c f r, λ h. absurd (h refl))
  refuses_named (no_room l es r v u f e) = (19, 0, 0, 0, e, inl refl, omega arith, λ h. omega arith)

  pub refuses_some : Refuses c s room a → a.number ≡ 0 → ⊥
  refuses_some r h =
      let (n, k, p, q, e, b, i, o) = refuses_named r in
      let z : n ≡ 0 = rw e at h in
      ⊎_elim (λ x. omega arith) (λ x. type_some x z) b

  -- Number 24, number 25, number 9, and number 19.
  refuses_twenty_four : Refuses c s room a → a.number ≡ 24 → is_offered c ≡ false
  refuses_twenty_four (not_offered o e) h = o
  refuses_twenty_four (too_long o l e) h = absurd (omega (arith, rw e at h))
  refuses_twenty_four (not_allowed o l d e) h = absurd (omega (arith, rw e at h))
  refuses_twenty_four (malformed l n k r e) h = absurd ((file_apart (type_file_within c.name_length s n k r).0).2 (omega (arith, rw e at h)))
  refuses_twenty_four (repeated l es r v e) h = absurd (omega (arith, rw e at h))
  refuses_twenty_four (ambiguous l es r v k p q f e) h = absurd (omega (arith, rw e at h))
  refuses_twenty_four (no_room l es r v u f e) h = absurd (omega (arith, rw e at h))

  refuses_twenty_five : Refuses c s room a → a.number ≡ 25 → Legible c s × (es : List Element) × (type_file c.name_length s ≡ got es) × (1 ≤ first_repeated es) × (a.position ≡ first_repeated es)
  refuses_twenty_five (not_offered o e) h = absurd (omega (arith, rw e at h))
  refuses_twenty_five (too_long o l e) h = absurd (omega (arith, rw e at h))
  refuses_twenty_five (not_allowed o l d e) h = absurd (omega (arith, rw e at h))
  refuses_twenty_five (malformed l n k r e) h = absurd ((file_apart (type_file_within c.name_length s n k r).0).2 (omega (arith, rw e at h)))
  refuses_twenty_five (repeated l es r v e) h = (l, es, r, v, ap (λ (b : Answer). b.position) e)
  refuses_twenty_five (ambiguous l es r v k p q f e) h = absurd (omega (arith, rw e at h))
  refuses_twenty_five (no_room l es r v u f e) h = absurd (omega (arith, rw e at h))

  refuses_nine : Refuses c s room a → a.number ≡ 9 → Legible c s × (es : List Element) × (type_file c.name_length s ≡ got es) × (first_repeated es ≡ 0) × FirstAmbiguous s a.position a.first a.second es
  refuses_nine (not_offered o e) h = absurd (omega (arith, rw e at h))
  refuses_nine (too_long o l e) h = absurd (omega (arith, rw e at h))
  refuses_nine (not_allowed o l d e) h = absurd (omega (arith, rw e at h))
  refuses_nine (malformed l n k r e) h = absurd ((file_apart (type_file_within c.name_length s n k r).0).0 (rw e at h))
  refuses_nine (repeated l es r v e) h = absurd (omega (arith, rw e at h))
  refuses_nine (ambiguous l es r v k p q f e) h = rw e (l, es, r, v, f)
  refuses_nine (no_room l es r v u f e) h = absurd (omega (arith, rw e at h))

  refuses_nineteen : Refuses c s room a → a.number ≡ 19 → (es : List Element) × Accepts c s es × (room < record_width * length es)
  refuses_nineteen (not_offered o e) h = absurd (omega (arith, rw e at h))
  refuses_nineteen (too_long o l e) h = absurd (omega (arith, rw e at h))
  refuses_nineteen (not_allowed o l d e) h = absurd (omega (arith, rw e at h))
  refuses_nineteen (malformed l n k r e) h = absurd ((file_apart (type_file_within c.name_length s n k r).0).1 (rw e at h))
  refuses_nineteen (repeated l es r v e) h = absurd (omega (arith, rw e at h))
  refuses_nineteen (ambiguous l es r v k p q f e) h = absurd (omega (arith, rw e at h))
  refuses_nineteen (no_room l es r v u f e) h = (es, record { legible = l; elements = r; unrepeated = v; unambiguous = u }, f)

pub read_fair : {c : Settings} {s : List ℕ} {ds es : List Element} → Accepts c s ds → type_file c.name_length s ≡ got es → AllUnambiguous s es
read_fair {c} {s} {ds} {es} w r =
    let q = w.elements in
    let e : ds ≡ es = cc in
    rw e at w.unambiguous

module _ {l : Lent} {c : Settings} {s before : List ℕ} {a : Answer} {after : List ℕ} where
  pub settled_accepts : Judged l c s before a after → a.number ≡ 0 → (es : List Element) × Accepts c s es × (record_width * length es ≤ room l before) × (a ≡ acceptance (length es)) × (after ≡ filled_with (standing l (records es)) before)
  settled_accepts (refuses r z) h = absurd (refuses_some r h)
  settled_accepts (accepts es w f e z) h = (es, w, f, e, z)

  pub settled_twenty_four : Judged l c s before a after → a.number ≡ 24 → is_offered c ≡ false
  settled_twenty_four x h = refuses_twenty_four (settled_refuses x (λ z. omega arith)).0 h

  pub settled_twenty_five : Judged l c s before a after → a.number ≡ 25 → Legible c s × (es : List Element) × (type_file c.name_length s ≡ got es) × (1 ≤ first_repeated es) × (a.position ≡ first_repeated es)
  settled_twenty_five x h = refuses_twenty_five (settled_refuses x (λ z. omega arith)).0 h

  pub settled_nine : Judged l c s before a after → a.number ≡ 9 → Legible c s × (es : List Element) × (type_file c.name_length s ≡ got es) × (first_repeated es ≡ 0) × FirstAmbiguous s a.position a.first a.second es
  settled_nine x h = refuses_nine (settled_refuses x (λ z. omega arith)).0 h

  pub settled_nineteen : Judged l c s before a after → a.number ≡ 19 → (es : List Element) × Accepts c s es × (room l before < record_width * length es)
  settled_nineteen x h = refuses_nineteen (settled_refuses x (λ z. omega arith)).0 h

  -- Under 25 an "&" stands where none may; else none does.
  pub settled_repeated : Judged l c s before a after → Legible c s → (es : List Element) → type_file c.name_length s ≡ got es → 1 ≤ first_repeated es → a.number ≡ 25
  settled_repeated x i es r n = go (rw r at (when_legible i x))
    where
      go : Read l s before a after (got es) → a.number ≡ 25
      go (again v e z) = rw e
      go (clash v k p q f e z) = absurd (omega arith)
      go (tight v u f e z) = absurd (omega arith)
      go (enough v u f e z) = absurd (omega arith)

  -- Under 9 some model has a pair at fault; else none that was read has, unless it is 25 that comes before.
  pub settled_fair : Judged l c s before a after → Legible c s → (es : List Element) → type_file c.name_length s ≡ got es → (a.number ≡ 9 → ⊥) → (a.number ≡ 25 → ⊥) → AllUnambiguous s es
  settled_fair x i es r n m = go (rw r at (when_legible i x))
    where
      go : Read l s before a after (got es) → AllUnambiguous s es
      go (again v e z) = absurd (m (rw e))
      go (clash v k p q f e z) = absurd (n (rw e))
      go (tight v u f e z) = u
      go (enough v u f e z) = u

  pub settled_faulty : Judged l c s before a after → Legible c s → (es : List Element) → type_file c.name_length s ≡ got es → first_repeated es ≡ 0 → (AllUnambiguous s es → ⊥) → a.number ≡ 9
  settled_faulty x i es r o n = go (rw r at (when_legible i x))
    where
      go : Read l s before a after (got es) → a.number ≡ 9
      go (again v e z) = absurd (omega arith)
      go (clash v k p q f e z) = rw e
      go (tight v u f e z) = absurd (n u)
      go (enough v u f e z) = absurd (n u)

-- The buffer keeps its length.
pub settled_length : {l : Lent} {c : Settings} {s before : List ℕ} {a : Answer} {after : List ℕ} → Judged l c s before a after → length after ≡ length before
settled_length {l} {c} {s} {before} (refuses r z) = rw z (length-replicate (length before) 0)
settled_length {l} {c} {s} {before} (accepts es w f e z) = rw z (lent_length l (records es) before (omega (arith, records_length es)))
