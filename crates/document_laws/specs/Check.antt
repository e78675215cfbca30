-- A computed test of what the rules say of a document under a type, and that it is right.
use Rattle.std.specs.Prelude.{ℕ, ◌+◌, ◌≡◌, Bool, true, false, ◌&&◌, length, eqb, leb}
use Rattle.std.proofs.Math.Path.{refl}
use Rattle.std.proofs.Common.{ap, ap₂, eqb-true, leb-true}
use Rattle.std.proofs.lemmas.Bool.{false≢true}
use mathlib.Core.List.{List, [], ◌∷◌}
use Rattle.rules.specs.Settings.{Settings, is_offered}
use Rattle.rules.specs.Bytes.{allowed, span, type_limit, document_limit}
use Rattle.rules.specs.Reading.{Reading, refused, got}
use Rattle.rules.specs.Walk.{Group, place, seq, alt, opt, plus, and, Members, one, also}
use Rattle.rules.specs.TypeFile.{Content, empty, model, Element, type_file}
use Rattle.rules.specs.Judge.{same_place, first_repeated, Unambiguous, AllUnambiguous, Legible}
use Rattle.rules.specs.Events.{Event}
use Rattle.rules.specs.Reader.{document, Reads}
use Rattle.rules_laws.specs.In.{All, none, more}
use Rattle.basic_laws.specs.Truth.{and_left, and_right}
use Rattle.model_sets.specs.Sets.{size, size_m, Numbered, NumberedM}
use Rattle.and_laws.specs.First.{first_pair_of, first_pair_of_none}
use Rattle.rules_laws.specs.Groups.{GuardedIn}
use Rattle.document_laws.specs.Decide.{decided, NumberedIn, AllNumbered, AllGuarded, decided_means}
use Rattle.document_laws.specs.Numbers.{type_file_guarded}

-- A type file, a document, and what reading it must give.
pub record Example : Type 0 where
  pub type : List ℕ
  pub text : List ℕ
  pub gives : Reading (List Event)

-- The type's models

unfoldable mutual
  pub is_numbered : Group → ℕ → Bool
  is_numbered (place n) lo = eqb n lo
  is_numbered (seq g h) lo = is_numbered g lo && is_numbered h (lo + size g)
  is_numbered (alt g h) lo = is_numbered g lo && is_numbered h (lo + size g)
  is_numbered (opt g) lo = is_numbered g lo
  is_numbered (plus g) lo = is_numbered g lo
  is_numbered (and m) lo = are_numbered m lo

  pub are_numbered : Members → ℕ → Bool
  are_numbered (one g) lo = is_numbered g lo
  are_numbered (also m g) lo = are_numbered m lo && is_numbered g (lo + size_m m)

mutual
  unfolding is_numbered are_numbered

  pub numbered : (g : Group) (lo : ℕ) → is_numbered g lo ≡ true → Numbered g lo
  numbered (place n) lo e = eqb-true n lo e
  numbered (seq g h) lo e = (numbered g lo (and_left (is_numbered g lo) _ e), numbered h (lo + size g) (and_right (is_numbered g lo) _ e))
  numbered (alt g h) lo e = (numbered g lo (and_left (is_numbered g lo) _ e), numbered h (lo + size g) (and_right (is_numbered g lo) _ e))
  numbered (opt g) lo e = numbered g lo e
  numbered (plus g) lo e = numbered g lo e
  numbered (and m) lo e = all_numbered m lo e

  all_numbered : (m : Members) (lo : ℕ) → are_numbered m lo ≡ true → NumberedM m lo
  all_numbered (one g) lo e = numbered g lo e
  all_numbered (also m g) lo e = (all_numbered m lo (and_left (are_numbered m lo) _ e), numbered g (lo + size_m m) (and_right (are_numbered m lo) _ e))

-- The content is EMPTY, or a model that is numbered from 1 and has no pair at fault.
unfoldable pub is_fair : List ℕ → Content → Bool
is_fair s empty = true
is_fair s (model g ps n) = is_numbered g 1 && eqb (first_pair_of (same_place s ps) g).0 0

fair : (s : List ℕ) (c : Content) → GuardedIn c → is_fair s c ≡ true → NumberedIn c × Unambiguous s c
unfolding is_fair
fair s empty d e = (tt, tt)
fair s (model g ps n) d e =
    let i = numbered g 1 (and_left (is_numbered g 1) _ e) in
    (i, first_pair_of_none (same_place s ps) g i d (eqb-true _ 0 (and_right (is_numbered g 1) _ e)))

unfoldable pub all_fair : List ℕ → List Element → Bool
all_fair s [] = true
all_fair s (e ∷ es) = is_fair s e.content && all_fair s es

all_fair_lem : (s : List ℕ) (es : List Element) → AllGuarded es → all_fair s es ≡ true → AllNumbered es × AllUnambiguous s es
unfolding all_fair
all_fair_lem s [] d e = (tt, tt)
all_fair_lem s (x ∷ es) k e =
    let (a, b) = fair s x.content k.0 (and_left (is_fair s x.content) _ e) in
    let (c, d) = all_fair_lem s es k.1 (and_right (is_fair s x.content) _ e) in
    ((a, c), (b, d))

-- Two readings

unfoldable pub same_event : Event → Event → Bool
same_event a b = eqb a.kind b.kind && (eqb a.number b.number && (eqb a.offset b.offset && (eqb a.size b.size && eqb a.place b.place)))

same_event_lem : (a b : Event) → same_event a b ≡ true → a ≡ b
unfolding same_event
same_event_lem a b e =
    let k = eqb-true a.kind b.kind (and_left (eqb a.kind b.kind) _ e) in
    let e₁ = and_right (eqb a.kind b.kind) _ e in
    let n = eqb-true a.number b.number (and_left (eqb a.number b.number) _ e₁) in
    let e₂ = and_right (eqb a.number b.number) _ e₁ in
    let o = eqb-true a.offset b.offset (and_left (eqb a.offset b.offset) _ e₂) in
    let e₃ = and_right (eqb a.offset b.offset) _ e₂ in
    let z = eqb-true a.size b.size (and_left (eqb a.size b.size) _ e₃) in
    let p = eqb-true a.place b.place (and_right (eqb a.size b.size) _ e₃) in
    λ i. record { kind = k i; number = n i; offset = o i; size = z i; place = p i }

unfoldable pub same_events : List Event → List Event → Bool
same_events [] [] = true
same_events [] (b ∷ ys) = false
same_events (a ∷ xs) [] = false
same_events (a ∷ xs) (b ∷ ys) = same_event a b && same_events xs ys

same_events_lem : (xs ys : List Event) → same_events xs ys ≡ true → xs ≡ ys
unfolding same_events
same_events_lem [] [] e = refl
same_events_lem [] (b ∷ ys) e = absurd (false≢true e)
same_events_lem (a ∷ xs) [] e = absurd (false≢true e)
same_events_lem (a ∷ xs) (b ∷ ys) e = ap₂ ◌∷◌ (same_event_lem a b (and_left (same_event a b) _ e)) (same_events_lem xs ys (and_right (same_event a b) _ e))

unfoldable pub same_reading : Reading (List Event) → Reading (List Event) → Bool
same_reading (refused n k) (refused m j) = eqb n m && eqb k j
same_reading (refused n k) (got ys) = false
same_reading (got xs) (refused m j) = false
same_reading (got xs) (got ys) = same_events xs ys

same_reading_lem : (r q : Reading (List Event)) → same_reading r q ≡ true → r ≡ q
unfolding same_reading
same_reading_lem (refused n k) (refused m j) e = ap₂ refused (eqb-true n m (and_left (eqb n m) _ e)) (eqb-true k j (and_right (eqb n m) _ e))
same_reading_lem (refused n k) (got ys) e = absurd (false≢true e)
same_reading_lem (got xs) (refused m j) e = absurd (false≢true e)
same_reading_lem (got xs) (got ys) e = ap got (same_events_lem xs ys e)

-- The test

unfoldable pub is_legible : ℕ → List ℕ → Bool
is_legible limit s = leb (length s) limit && eqb (span allowed s) (length s)

unfoldable pub reads_as : Settings → Example → List Element → Bool
reads_as c x es =
    is_offered c && (is_legible type_limit x.type && (is_legible document_limit x.text && (eqb (first_repeated es) 0 && (all_fair x.type es && same_reading (document c x.type es (decided x.type es) x.text) x.gives))))

-- The rules accept the type with these elements and read the document just so.
abbrev pub ReadSo : Settings → Example → List Element → Type 0
ReadSo c x es = Reads c x.type x.text es x.gives

pub reads_so : (c : Settings) (x : Example) (es : List Element) → type_file c.name_length x.type ≡ got es → reads_as c x es ≡ true → ReadSo c x es
unfolding reads_as is_legible
reads_so c x es read t =
    let o = and_left (is_offered c) _ t in
    let t₀ = and_right (is_offered c) _ t in
    let a = and_left (is_legible type_limit x.type) _ t₀ in
    let t₁ = and_right (is_legible type_limit x.type) _ t₀ in
    let b = and_left (is_legible document_limit x.text) _ t₁ in
    let t₂ = and_right (is_legible document_limit x.text) _ t₁ in
    let r = eqb-true (first_repeated es) 0 (and_left (eqb (first_repeated es) 0) _ t₂) in
    let t₃ = and_right (eqb (first_repeated es) 0) _ t₂ in
    let d = type_file_guarded c.name_length x.type es read r in
    let (n, u) = all_fair_lem x.type es d (and_left (all_fair x.type es) _ t₃) in
    let legible : Legible c x.type =
    record { offered = o; short = leb-true (length x.type) type_limit (and_left (leb (length x.type) type_limit) _ a); clean = eqb-true _ _ (and_right (leb (length x.type) type_limit) _ a) } in
    record {
      legible = record { type = legible; short = leb-true (length x.text) document_limit (and_left (leb (length x.text) document_limit) _ b); clean = eqb-true _ _ (and_right (leb (length x.text) document_limit) _ b) };
      accepted = record { legible = legible; elements = read; unrepeated = r; unambiguous = u };
      decisions = decided x.type es;
      means = decided_means x.type es n d u;
      reading = same_reading_lem _ x.gives (and_right (all_fair x.type es) _ t₃);
    }

-- Examples of any kind X: the type file of each is read, and of its elements holds what the example says.

pub record Right {X : Type 0} (c : Settings) (type : X → List ℕ) (Says : X → List Element → Type 0) (x : X) : Type 0 where
  pub elements : List Element
  pub reads : type_file c.name_length (type x) ≡ got elements
  pub says : Says x elements

-- What is got passes the test.
unfoldable pub passes : (List Element → Bool) → Reading (List Element) → Bool
passes test (refused n k) = false
passes test (got es) = test es

unfoldable pub all_pass : {X : Type 0} → Settings → (type : X → List ℕ) → (X → List Element → Bool) → List X → Bool
all_pass c type test [] = true
all_pass c type test (x ∷ xs) = passes (test x) (type_file c.name_length (type x)) && all_pass c type test xs

module _ {X : Type 0} (c : Settings) (type : X → List ℕ) {Says : X → List Element → Type 0} (test : X → List Element → Bool) (means : (x : X) (es : List Element) → type_file c.name_length (type x) ≡ got es → test x es ≡ true → Says x es) where
  right : (x : X) (r : Reading (List Element)) → type_file c.name_length (type x) ≡ r → passes (test x) r ≡ true → Right c type Says x
  unfolding passes
  right x (refused n k) e t = absurd (false≢true t)
  right x (got es) e t = record { elements = es; reads = e; says = means x es e t }

  pub all_right : (xs : List X) → all_pass c type test xs ≡ true → All (Right c type Says) xs
  unfolding all_pass
  all_right [] t = none
  all_right (x ∷ xs) t =
      let b = passes (test x) (type_file c.name_length (type x)) in
      more (right x (type_file c.name_length (type x)) refl (and_left b _ t)) (all_right xs (and_right b _ t))
