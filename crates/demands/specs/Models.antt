-- The proofs behind demand 3: the models that were read, their places, and the first of them that is ambiguous.
use Rattle.std.specs.Prelude.{ℕ, zero, suc, ◌+◌, ◌-◌, ◌≤◌, ◌<◌, ◌≡◌, refl, ◌⊎◌, length}
use Rattle.std.proofs.Common.{ap, subst, ◌∙◌, inl, inr, arith}
use mathlib.Core.List.{List, [], ◌∷◌, ◌++◌, Memᴰ}
use Rattle.std.proofs.Math.Decide.{dec_lt}
use Rattle.rules.specs.Settings.{Settings}
use Rattle.rules.specs.Reading.{got}
use Rattle.rules.specs.Walk.{Group, MayComeNext}
use Rattle.rules.specs.Ambiguity.{PairAtFault}
use Rattle.rules.specs.TypeFile.{Place, Content, empty, model, Element, type_file}
use Rattle.rules.specs.Judge.{place_at, same_place, Answer, Unambiguous, AllUnambiguous, PairStandsAt, FirstAmbiguous, here, later, first_repeated}
use Rattle.rules_laws.specs.In.{All, none, more, all_snoc, all_mem}
use Rattle.rules_laws.specs.Holds.{got_so}
use Rattle.rules_laws.specs.Groups.{Built, GuardedIn, content_read_lem}
use Rattle.rules_laws.specs.Declarations.{Declares, bares, type_file_holds}
use Rattle.model_sets.specs.Sets.{size, Numbered}
use Rattle.and_laws.specs.Base.{mem_left, mem_right, mem_head}
use Rattle.and_laws.specs.Sets.{walk_in}
use Rattle.and_laws.specs.Numbers.{Guarded, has_range}
use Rattle.and_laws.specs.First.{first_pair_of, first_pair_of_none, first_pair_of_is}
use Rattle.document_laws.specs.Decide.{AllGuarded}
use Rattle.document_laws.specs.Numbers.{Counted, counted_builds, type_file_guarded}
use Rattle.type_laws.specs.Members.{type_file_unguarded}
use Rattle.demands.specs.Words.{ModelOf, SomeRepeated, NamesFirst}
use Rattle.answer_laws.specs.Judge.{stands_model, model_exactly, not_ambiguous}

-- The places of a model that was read are numbered from 1, left to right, and as many as were written down.
abbrev pub PlacesCounted : Element → Type 0
PlacesCounted e = Built Counted e.content

-- Attributes take nothing from a content.
counted_whole : (es : List Element) → All PlacesCounted (bares es) → All PlacesCounted es
unfolding bares
counted_whole [] none = none
counted_whole (e ∷ es) (more h a) = more h (counted_whole es a)

module _ (long : ℕ) (s : List ℕ) where
  counted_more : (es : List Element) (e : Element) → All PlacesCounted es → Declares long s es e → All PlacesCounted (es ++ e ∷ [])
  counted_more es e a d = all_snoc a (got_so (content_read_lem long s counted_builds d.before d.begun) d.content_read).built

  pub type_file_counted : (es : List Element) → type_file long s ≡ got es → All PlacesCounted es
  type_file_counted es e = counted_whole es (got_so (type_file_holds long s (All PlacesCounted) counted_more none) e).1

  model_counted : (es : List Element) → type_file long s ≡ got es → (g : Group) (ps : List Place) → ModelOf es g ps → Counted [] g ps
  model_counted es r g ps (e, n, m, b) = subst (Built Counted) b (all_mem (type_file_counted es r) m)

  -- So are those of a pair at fault.
  pub pair_in : (es : List Element) → type_file long s ≡ got es → (g : Group) (ps : List Place) → ModelOf es g ps
      → (p q : ℕ) → PairAtFault (same_place s ps) g p q → (1 ≤ p) × (q ≤ length ps)
  pair_in es r g ps m p q f =
      let x = model_counted es r g ps m in
      let (less, same, taken, a, b) = f in
      omega (arith, next_place g x.numbered taken p a, next_place g x.numbered taken q b, x.counted)
    where
      next_place : (g : Group) → Numbered g 1 → (taken : List ℕ) (p : ℕ) → MayComeNext g taken p → (1 ≤ p) × (p < 1 + size g)
      next_place g i taken p (t, w) = has_range g 1 i p (walk_in g ((taken ++ p ∷ []) ++ t) w p (mem_left (taken ++ p ∷ []) t p (mem_right taken (p ∷ []) p (mem_head p []))))

  -- Number 25 and what the models have.

  pub some_repeated : (es : List Element) → type_file long s ≡ got es → 1 ≤ first_repeated es → SomeRepeated es
  some_repeated es r l =
      let (e, m, x) = type_file_unguarded long s es r l in
      by_content e m e.content refl x
    where
      by_content : (e : Element) → Memᴰ e es → (x : Content) → e.content ≡ x → (GuardedIn e.content → ⊥) → SomeRepeated es
      by_content e m empty i x = absurd (x (rw i tt))
      by_content e m (model g ps n) i x = (g, ps, (e, n, m, i), λ d. x (rw i d))

  -- Where none is told every model is guarded.
  pub unrepeated_none : (es : List Element) → type_file long s ≡ got es → first_repeated es ≡ 0 → SomeRepeated es → ⊥
  unrepeated_none es r o (g, ps, (e, n, m, i), x) = x (rw i at (guarded_member es (type_file_guarded long s es r o) m))
    where
      guarded_member : (fs : List Element) → AllGuarded fs → {e : Element} → Memᴰ e fs → GuardedIn e.content
      guarded_member [] d m = elim m [ ]
      guarded_member (f ∷ fs) d (Memᴰ.head e) = rw e d.0
      guarded_member (f ∷ fs) d (Memᴰ.tail m) = guarded_member fs d.1 m

  pub none_repeated : (es : List Element) → type_file long s ≡ got es → (SomeRepeated es → ⊥) → first_repeated es ≡ 0
  none_repeated es r o = go (dec_lt 0 (first_repeated es))
    where
      go : Dec (0 < first_repeated es) → first_repeated es ≡ 0
      go (yes l) = absurd (o (some_repeated es r l))
      go (no n) = omega arith

  pub repeated_some : (es : List Element) → type_file long s ≡ got es → SomeRepeated es → 1 ≤ first_repeated es
  repeated_some es r x = go (dec_lt 0 (first_repeated es))
    where
      go : Dec (0 < first_repeated es) → 1 ≤ first_repeated es
      go (yes l) = l
      go (no n) = absurd (unrepeated_none es r (omega arith) x)

-- The first ambiguous model, and what stands before and behind it.

member : (es : List Element) (e : Element) (fs : List Element) → Memᴰ e (es ++ e ∷ fs)
member [] e fs = Memᴰ.head refl
member (x ∷ es) e fs = Memᴰ.tail (member es e fs)

parted : {s : List ℕ} {k p q : ℕ} {es : List Element} → FirstAmbiguous s k p q es
    → (front : List Element) × (e : Element) × (rest : List Element) × (es ≡ front ++ e ∷ rest) × AllUnambiguous s front × PairStandsAt s e.content k p q
parted (here {e} {es} w) = ([], e, es, refl, tt, w)
parted (later {e} u f) =
    let (front, x, rest, z, v, w) = parted f in
    (e ∷ front, x, rest, ap (λ (l : List Element). e ∷ l) z, (u, v), w)

pub names_first : (c : Settings) (s : List ℕ) (a : Answer) (es : List Element) → type_file c.name_length s ≡ got es → FirstAmbiguous s a.position a.first a.second es → NamesFirst c s a
names_first c s a es r f =
    let (front, e, rest, z, u, w) = parted f in
    let (g, ps, n, is, x, at) = stands_model s e.content a.position a.first a.second w in
    let whole : type_file c.name_length s ≡ got (front ++ e ∷ rest) = r ∙ ap got z in
    let (i, j) = pair_in c.name_length s (front ++ e ∷ rest) whole g ps (e, n, member front e rest, is) a.first a.second x.0 in
    record {
      earlier = front;
      element = e;
      later = rest;
      read = whole;
      unambiguous = λ (h, qs, (y, m, b, d), v). not_ambiguous s h qs u b d v;
      group = g;
      places = ps;
      tokens = n;
      content = is;
      ambiguous = (model_exactly s g ps).1 (a.first, a.second, x.0);
      pair = x;
      from_one = i;
      in_order = x.0.0;
      counted = j;
      stands = at;
    }

-- A model has a first pair at fault, or none: a search over its places finds which.

module _ (s : List ℕ) where
  abbrev Searched : Content → Type 0
  Searched c = ((k : ℕ) × (p : ℕ) × (q : ℕ) × PairStandsAt s c k p q) ⊎ Unambiguous s c

  by_pair : (g : Group) (ps : List Place) (n : ℕ) → Numbered g 1 → Guarded g → (r : ℕ × ℕ) → first_pair_of (same_place s ps) g ≡ r → Searched (model g ps n)
  by_pair g ps n i d (zero, q) e = inr (first_pair_of_none (same_place s ps) g i d (ap (λ (r : ℕ × ℕ). r.0) e))
  by_pair g ps n i d (suc p, q) e = inl ((place_at ps (q - 1)).at, suc p, q, (first_pair_of_is (same_place s ps) g i d (suc p) q e (omega arith), refl))

  searched : (c : Content) → Built Counted c → GuardedIn c → Searched c
  searched empty b d = inr tt
  searched (model g ps n) b d = by_pair g ps n b.numbered d (first_pair_of (same_place s ps) g) refl

  abbrev pub SomeFirst : List Element → Type 0
  SomeFirst es = (k : ℕ) × (p : ℕ) × (q : ℕ) × FirstAmbiguous s k p q es

  pub first_or_none : (es : List Element) → All PlacesCounted es → AllGuarded es → SomeFirst es ⊎ AllUnambiguous s es
  first_or_none [] none d = inr tt
  first_or_none (e ∷ es) (more b a) d = go (searched e.content b d.0) (first_or_none es a d.1)
    where
      go : Searched e.content → SomeFirst es ⊎ AllUnambiguous s es → SomeFirst (e ∷ es) ⊎ AllUnambiguous s (e ∷ es)
      go (inl (k, p, q, w)) r = inl (k, p, q, here w)
      go (inr u) (inl (k, p, q, f)) = inl (k, p, q, later u f)
      go (inr u) (inr v) = inr (u, v)
