-- The proof behind "number 25 at the first such "&"": every model that was read is written so, and where its
-- reading tells that "&" stands is the first of those.
use Rattle.std.proofs.Common.{ℕ, zero, suc, ◌+◌, ◌-◌, ◌≤◌, ◌<◌, ◌≡◌, refl, sym, ◌∙◌, ap, subst, Bool, true, false, ◌&&◌, ◌||◌, ◌⊎◌, ◌↔◌, inl, inr, length, eqb, leb, ltb, arith, eqb-true}
use mathlib.Core.List.{List, [], ◌∷◌, ◌++◌, Memᴰ}
use Rattle.std.proofs.lemmas.Bool.{eqb-false}
use Rattle.rules.specs.Settings.{Settings}
use Rattle.rules.specs.Bytes.{byte_at, letter, name_end, separators_end, GRPCNT, GRPLVL, GRPGTCNT, AND, DSO, GRPC, GRPO, OPT, OR, PERO, PLUS, REP, RNI, SEQ}
use Rattle.rules.specs.Reading.{Reading, got}
use Rattle.rules.specs.Walk.{Group, place, seq, alt, opt, plus, and, Members, also, Plain, Guarded, GuardedM}
use Rattle.rules.specs.TypeFile.{is_word, is_cut, PCDATA, EMPTY, ANY, CDATA, RCDATA, Place, Tokens, occurrence, new_place, is_connector, members_of, join, earlier, join_tokens, name_token, data_token, token, Further, closed, joined, further, members, group, Content, empty, model, ContentEnd, content_word, content_model, content, Element, type_file}
use Rattle.rules.specs.Judge.{Answer, first_repeated}
use Rattle.rules.specs.Elements.{element_at}
use Rattle.basic_laws.specs.Truth.{bool_cases, and_left, and_right, or_cases}
use Rattle.text.specs.Words.{name_end_from, name_end_more, separators_end_from}
use Rattle.rules_laws.specs.Holds.{Gives, stops, reads, got_so, so, on, either, whichever}
use Rattle.rules_laws.specs.In.{all_mem}
use Rattle.rules_laws.specs.Groups.{with_place, name_place, unfit_holds, GuardedIn, whatever_builds, content_read_lem}
use Rattle.type_laws.specs.Made.{type_file_made}
use Rattle.type_laws.specs.Members.{type_file_ampersand}
use Rattle.demands.specs.Order.{InOrder, order_at, type_file_order}
use Rattle.demands.specs.Words.{Form, bare, whole, several, Stands, Joins, Repeats, ModelOf, SomeRepeated, NoneRepeats, RepeatsFirst}

-- Of the positions of P, which lie from i up to j, the first is n; there is none where n is 0.
record First (P : ℕ → Type 0) (i j n : ℕ) : Type 0 where
  within : (p : ℕ) → P p → (i ≤ p) × (p < j)
  none : n ≡ 0 → (p : ℕ) → P p → ⊥
  some : 1 ≤ n → P n
  least : 1 ≤ n → (p : ℕ) → P p → n ≤ p

nowhere : (i j : ℕ) → First (λ p. ⊥) i j 0
nowhere i j =
    record {
      within = λ p h. absurd h;
      none = λ e p h. h;
      some = λ l. absurd (omega arith);
      least = λ l p h. absurd h;
    }

wider : {P : ℕ → Type 0} {i j n : ℕ} (h k : ℕ) → h ≤ i → j ≤ k → First P i j n → First P h k n
wider h k a b f =
    record {
      within = λ p x. let (u, v) = f.within p x in (omega arith, omega arith);
      none = f.none;
      some = f.some;
      least = f.least;
    }

-- Those of P stand before those of Q.
both : {P Q : ℕ → Type 0} {i j k l m n : ℕ} → i ≤ k → j ≤ k → j ≤ l → First P i j m → First Q k l n
    → First (λ p. P p ⊎ Q p) i l (earlier m n)
both {P} {Q} {i} {j} {k} {l} {m} {n} a b c f g =
    whichever (First (λ p. P p ⊎ Q p) i l) (eqb m 0)
    (λ x.
    let e = eqb-true m 0 x in
    record {
      within = in_both;
      none = λ z p h. by_either p h (f.none e p) (g.none z p);
      some = λ z. inr (g.some z);
      least = λ z p h. by_either p h (λ u. absurd (f.none e p u)) (g.least z p);
    })
    (λ x.
    let s : 1 ≤ m = omega (arith, eqb-false m 0 x) in
    record {
      within = in_both;
      none = λ z p h. absurd (omega arith);
      some = λ z. inl (f.some s);
      least = λ z p h. by_either p h (f.least s p) (λ v. omega (arith, f.within m (f.some s), g.within p v));
    })
  where
    by_either : {A : Type 0} (p : ℕ) → P p ⊎ Q p → (P p → A) → (Q p → A) → A
    by_either p (inl u) x y = x u
    by_either p (inr v) x y = y v

    in_both : (p : ℕ) → P p ⊎ Q p → (i ≤ p) × (p < l)
    in_both p h = by_either p h (λ u. omega (arith, f.within p u)) (λ v. omega (arith, g.within p v))

-- A connector at i, before those of P.
connected : {P : ℕ → Type 0} {k l n : ℕ} (b i : ℕ) → 1 ≤ i → i < k → k ≤ l → First P k l n
    → First (λ p. ((b ≡ AND) × (p ≡ i)) ⊎ P p) i l (elim (eqb b AND) [ true ↦ i | false ↦ n ])
connected {P} {k} {l} {n} b i s a c f =
    whichever (First (λ p. ((b ≡ AND) × (p ≡ i)) ⊎ P p) i l) (eqb b AND)
    (λ x. record {
      within = inside;
      none = λ z p h. absurd (omega arith);
      some = λ z. inl (eqb-true b AND x, refl);
      least = λ z p h. (inside p h).0;
    })
    (λ x. record {
      within = inside;
      none = λ z p h. other x p h (f.none z p);
      some = λ z. inr (f.some z);
      least = λ z p h. other x p h (f.least z p);
    })
  where
    inside : (p : ℕ) → ((b ≡ AND) × (p ≡ i)) ⊎ P p → (i ≤ p) × (p < l)
    inside p (inl (e, q)) = omega arith
    inside p (inr u) = omega (arith, f.within p u)

    other : {A : Type 0} → eqb b AND ≡ false → (p : ℕ) → ((b ≡ AND) × (p ≡ i)) ⊎ P p → (P p → A) → A
    other x p (inl (e, q)) y = absurd (eqb-false b AND x e)
    other x p (inr u) y = y u

first_before : {P : ℕ → Type 0} {i j n : ℕ} → First P i j n → n ≤ j
first_before {n = zero} f = omega arith
first_before {n = suc n} f = omega (arith, f.within (suc n) (f.some (omega arith)))

-- What was read from i on, behind the places ps.
record Found (s : List ℕ) (f : Form) (ps : List Place) (i : ℕ) (t : Tokens) : Type 0 where
  from : i < t.at
  stands : Stands s f ps i t.group t.places t.at
  joins : First (Joins stands) i t.at t.and
  repeats : First (Repeats stands) i t.at t.repeated

module _ (long : ℕ) (s : List ℕ) where
  occurrence_found : (ps : List Place) (i : ℕ) (t : Tokens) → Found s bare ps i t
      → Found s whole ps i (occurrence s t)
  unfolding occurrence
  occurrence_found ps i t f =
      let b = byte_at s t.at in
      let on_joins : First (Joins f.stands) i (t.at + 1) t.and = wider i (t.at + 1) (omega arith)
      (omega arith) f.joins in
      let on_repeats : First (Repeats f.stands) i (t.at + 1) t.repeated = wider i (t.at + 1) (omega arith)
      (omega arith) f.repeats in
      let further : i < t.at + 1 = omega (arith, f.from) in
      whichever (Found s whole ps i) (eqb b OPT)
      (λ x. record {
        from = further;
        stands = Stands.optional f.stands (eqb-true b OPT x);
        joins = on_joins;
        repeats = on_repeats;
      })
      (λ x. whichever (Found s whole ps i) (eqb b PLUS)
      (λ y. record {
        from = further;
        stands = Stands.repeated f.stands (eqb-true b PLUS y);
        joins = on_joins;
        repeats = on_joins;
      })
      (λ y. whichever (Found s whole ps i) (eqb b REP)
      (λ z. record {
        from = further;
        stands = Stands.any f.stands (eqb-true b REP z);
        joins = on_joins;
        repeats = on_joins;
      })
      (λ z. record { from = f.from; stands = Stands.alone f.stands; joins = f.joins; repeats = f.repeats })))

  abbrev InnerFound : (ℕ → List Place → ℕ → Reading Tokens) → Type 0
  InnerFound inner = (at : ℕ) (ps : List Place) (n : ℕ) → byte_at s at ≡ GRPO
      → Gives (Found s bare ps at) (inner at ps n)

  module _ (inner : ℕ → List Place → ℕ → Reading Tokens) (inner_found : InnerFound inner) where
    token_found : (at : ℕ) (full : Bool) (ps : List Place) (n : ℕ)
        → Gives (Found s whole ps at) (token long inner s at full ps n)
    unfolding token name_token data_token
    token_found at full ps n =
        let b = byte_at s at in
        let e = name_end s (at + 1) in
        either (letter b)
        (λ x. either (ltb long (name_end s at - at)) (λ y. stops tt)
        (λ y. either full (λ z. stops tt)
        (λ z. reads (occurrence_found ps at (with_place (new_place ps) (name_end s at) (name_place s at) ps n)
        (record {
          from = name_end_more s at x;
          stands = Stands.name x;
          joins = nowhere at (name_end s at);
          repeats = nowhere at (name_end s at);
        })))))
        (λ x. either (eqb b RNI)
        (λ y. either (letter (byte_at s (at + 1)))
        (λ z. either (is_word s (at + 1) e PCDATA)
        (λ u. either full (λ v. stops tt)
        (λ v. reads (record {
          from = omega (arith, name_end_from s (at + 1));
          stands = Stands.pcdata (eqb-true b RNI y) u;
          joins = nowhere at e;
          repeats = nowhere at e;
        })))
        (λ u. either (is_cut s (at + 1) e PCDATA) (λ v. stops tt) (λ v. stops tt)))
        (λ z. stops tt))
        (λ y. either (eqb b GRPO)
        (λ z. either full (λ u. stops tt)
        (λ u. on (inner_found at ps (n + 1) (eqb-true b GRPO z))
        (λ t f. reads (occurrence_found ps at t f))))
        (λ z. either (eqb b DSO || eqb b PERO) (λ u. stops tt) (λ u. stops tt))))

    -- A further token is joined by the connector at i.
    joined_found : (ps : List Place) (from k joint : ℕ) (t : Tokens) → Found s (several k joint) ps from t
        → (b : ℕ) → b ≡ byte_at s (separators_end s t.at)
        → (is_connector b && (eqb joint 0 || eqb joint b)) ≡ true
        → (u : Tokens) → Found s whole t.places (separators_end s (separators_end s t.at + 1)) u
        → Found s (several (k + 1) b) ps from (join_tokens k b (separators_end s t.at) t u)
    joined_found ps from k joint t f b q z u g =
        let i = separators_end s t.at in
        let j = separators_end s (i + 1) in
        let l = separators_end_from s t.at in
        let m = separators_end_from s (i + 1) in
        record {
          from = omega (arith, f.from, l, m, g.from);
          stands = Stands.more b f.stands (one_kind (and_right (is_connector b) _ z)) (sym q)
              (and_left (is_connector b) _ z) g.stands;
          joins = both (omega (arith, f.from, l)) (omega (arith, l)) (omega (arith, l, m, g.from)) f.joins
              (connected b i (omega (arith, f.from, l)) (omega (arith, m)) (omega (arith, g.from)) g.joins);
          repeats = both (omega (arith, f.from, l, m)) (omega (arith, l, m))
              (omega (arith, l, m, g.from)) f.repeats g.repeats;
        }
      where
        one_kind : (eqb joint 0 || eqb joint b) ≡ true → (joint ≡ 0) ⊎ (joint ≡ b)
        one_kind h = or_cases (eqb joint 0) (eqb joint b) (λ x. inl (eqb-true joint 0 x))
            (λ x. inr (eqb-true joint b x)) h

    -- A group whose "(" stands at `at`.
    module _ (at : ℕ) (opens : byte_at s at ≡ GRPO) (ps : List Place) where
      abbrev FurtherFound : ℕ → Further → Type 0
      FurtherFound k (closed t) = Found s bare ps at t
      FurtherFound k (joined b t) = Found s (several (k + 1) b) ps (at + 1) t

      further_found : (k joint : ℕ) (t : Tokens) → Found s (several k joint) ps (at + 1) t
          → Gives (FurtherFound k) (further long inner s k joint t)
      unfolding further
      further_found k joint t f =
          let i = separators_end s t.at in
          let b = byte_at s i in
          let l = separators_end_from s t.at in
          either (eqb b GRPC)
          (λ x.
          reads
          (record {
            from = omega (arith, f.from, l);
            stands = Stands.group opens f.stands (eqb-true b GRPC x);
            joins = wider at (i + 1) (omega arith) (omega (arith, l)) f.joins;
            repeats = wider at (i + 1) (omega arith) (omega (arith, l)) f.repeats;
          }))
          (λ x. either (eqb b PERO) (λ y. stops tt)
          (λ y. either (is_connector b && (eqb joint 0 || eqb joint b))
          (λ z. on (token_found (separators_end s (i + 1))
          (leb GRPCNT k || leb GRPGTCNT t.tokens) t.places t.tokens)
          (λ u g. reads (joined_found ps (at + 1) k joint t f b refl z u g)))
          (λ z. stops tt)))

      members_found : (left k joint : ℕ) (t : Tokens) → Found s (several k joint) ps (at + 1) t
          → Gives (Found s bare ps at) (members long inner s left k joint t)
      unfolding members
      members_found zero k joint t f = stops {n = 6} {k = t.at} tt
      members_found (suc left) k joint t f =
          on (further_found k joint t f) (by_further (λ b u v. members_found left (k + 1) b u v))
        where
          by_further : ((b : ℕ) (u : Tokens) → Found s (several (k + 1) b) ps (at + 1) u
              → Gives (Found s bare ps at) (members long inner s left (k + 1) b u))
              → (x : Further) → FurtherFound k x
              → Gives (Found s bare ps at)
              (elim x [ closed u ↦ got u | joined b u ↦ members long inner s left (k + 1) b u ])
          by_further ih (closed u) v = reads v
          by_further ih (joined b u) v = ih b u v

  group_found : (levels : ℕ) → InnerFound (group long levels s)
  unfolding group
  group_found zero at ps n opens = stops {n = 6} {k = at} tt
  group_found (suc levels) at ps n opens =
      let inner = group long levels s in
      let j = separators_end s (at + 1) in
      let l = separators_end_from s (at + 1) in
      on (token_found inner (group_found levels) j (leb GRPGTCNT n) ps n)
      (λ t f.
      members_found inner (group_found levels) at opens ps GRPCNT 1 0 t
      (record {
        from = omega (arith, l, f.from);
        stands = Stands.first f.stands;
        joins = wider (at + 1) t.at l (omega arith) f.joins;
        repeats = wider (at + 1) t.at l (omega arith) f.repeats;
      }))

  -- A content: its model as it is written, and where the first such "&" stands.
  abbrev ContentFound : Content → ℕ → Type 0
  ContentFound empty n = n ≡ 0
  ContentFound (model g ps m) n = (i : ℕ) × (j : ℕ) × (w : Stands s whole [] i g ps j)
      × First (Repeats w) i j n

  content_found : (from i : ℕ)
      → Gives (λ (x : ContentEnd). ContentFound x.content x.repeated × (x.repeated ≤ x.at))
      (content long s from i)
  unfolding content content_model content_word
  content_found from i =
      either (eqb (byte_at s i) GRPO)
      (λ x. on (group_found GRPLVL i [] 0 (eqb-true (byte_at s i) GRPO x))
      (λ t f. let g =
      occurrence_found [] i t f in reads
      ((i, (occurrence s t).at, g.stands, g.repeats), first_before g.repeats)))
      (λ x. either (letter (byte_at s i))
      (λ y. either (ltb long (name_end s i - i)) (λ z. stops tt)
      (λ z. either (ltb from i && is_word s i (name_end s i) EMPTY) (λ u. reads (refl, omega arith))
      (λ u. either (is_word s i (name_end s i) ANY || is_word s i (name_end s i) CDATA || is_word s i
      (name_end s i) RCDATA) (λ v. stops tt)
      (λ v. either (ltb from i && is_cut s i (name_end s i) EMPTY) (λ w. stops tt) (λ w. stops tt)))))
      (λ y. unfit_holds s i (λ n k h. tt)))

  abbrev ElementFound : Element → Type 0
  ElementFound e = ContentFound e.content e.repeated × (e.repeated ≡ 0 → GuardedIn e.content)

  element_found : (es : List Element) → type_file long s ≡ got es → (k : ℕ) → k < length es
      → ElementFound (element_at es k)
  element_found es read k h =
      let d = type_file_made long s es read k h in (
        (got_so (content_found d.before d.begun) d.content_read).0,
        (got_so (content_read_lem long s whatever_builds d.before d.begun) d.content_read).guarded,
      )

  -- The first element that has one.
  record FirstOf (es : List Element) : Type 0 where
    earlier : List Element
    element : Element
    later : List Element
    parts : es ≡ earlier ++ element ∷ later
    unrepeated : SomeRepeated earlier → ⊥
    clear : NoneRepeats s earlier
    found : ContentFound element.content element.repeated
    told : first_repeated es ≡ element.repeated

  unguarded : (e : Element) (es : List Element) → GuardedIn e.content → (SomeRepeated es → ⊥)
      → SomeRepeated (e ∷ es) → ⊥
  unguarded e es d o (g, ps, (x, n, Memᴰ.head m, i), u) = u (subst GuardedIn i (rw m d))
  unguarded e es d o (g, ps, (x, n, Memᴰ.tail m, i), u) = o (g, ps, (x, n, m, i), u)

  clear_more : (e : Element) (es : List Element) → ContentFound e.content e.repeated → e.repeated ≡ 0
      → NoneRepeats s es → NoneRepeats s (e ∷ es)
  clear_more e es f z o g ps (x, n, Memᴰ.head m, i) =
      written (subst (λ (v : Content). ContentFound v e.repeated) i (rw m f))
    where
      written : ContentFound (model g ps n) e.repeated → (i : ℕ) × (j : ℕ) × (w : Stands s whole [] i g ps j)
          × ((p : ℕ) → Repeats w p → ⊥)
      written (i, j, w, h) = (i, j, w, h.none z)
  clear_more e es f z o g ps (x, n, Memᴰ.tail m, i) = o g ps (x, n, m, i)

  first_of : (es : List Element) → ((k : ℕ) → k < length es → ElementFound (element_at es k))
      → 1 ≤ first_repeated es → FirstOf es
  unfolding first_repeated element_at
  first_of [] f l = absurd (omega arith)
  first_of (e ∷ es) f l =
      bool_cases (eqb e.repeated 0)
      (λ x.
      let r = first_of es (λ k h. f (suc k) (omega arith)) (rw (x, first_repeated) at l) in
      record {
        earlier = e ∷ r.earlier;
        element = r.element;
        later = r.later;
        parts = ap (λ (v : List Element). e ∷ v) r.parts;
        unrepeated = unguarded e r.earlier ((f 0 (omega arith)).1 (eqb-true e.repeated 0 x)) r.unrepeated;
        clear = clear_more e r.earlier (f 0 (omega arith)).0 (eqb-true e.repeated 0 x) r.clear;
        found = r.found;
        told = rw (x, first_repeated) r.told;
      })
      (λ x. record {
        earlier = [];
        element = e;
        later = es;
        parts = refl;
        unrepeated = nothing_there;
        clear = λ g ps m. absurd (no_model m);
        found = (f 0 (omega arith)).0;
        told = rw (x, first_repeated) refl;
      })
    where
      no_model : {g : Group} {ps : List Place} → ModelOf [] g ps → ⊥
      no_model (x, n, m, i) = elim m [ ]

      nothing_there : SomeRepeated [] → ⊥
      nothing_there (g, ps, (x, n, m, i), u) = (elim m [ ])

-- What "&" joins is not plain, and what is repeated so is not guarded.

parts_plain : (k b : ℕ) (g h : Group) → Plain (join k b g h) → Plain g × Plain h × (b ≡ AND → ⊥)
parts_plain k b g h =
    whichever Parts (eqb b SEQ) (λ x f. (f.0, f.1, λ y. omega (arith, eqb-true b SEQ x)))
    (λ x. whichever Parts (eqb b OR) (λ y f. (f.0, f.1, λ z. omega (arith, eqb-true b OR y)))
    (λ y f. absurd f))
  where
    Parts : Group → Type 0
    Parts x = Plain x → Plain g × Plain h × (b ≡ AND → ⊥)

parts_guarded : (k b : ℕ) (g h : Group) → Guarded (join k b g h) → Guarded g × Guarded h
parts_guarded k b g h =
    whichever Parts (eqb b SEQ) (λ x f. f)
    (λ x. whichever Parts (eqb b OR) (λ y f. f)
    (λ y. whichever (λ (m : Members). Parts (and (also m h))) (leb k 1) (λ i f. f)
    (λ i f. (of_members g f.0, f.1))))
  where
    Parts : Group → Type 0
    Parts x = Guarded x → Guarded g × Guarded h

    of_members : (x : Group) → GuardedM (members_of x) → Guarded x
    of_members (place p) f = f
    of_members (seq x y) f = f
    of_members (alt x y) f = f
    of_members (opt x) f = f
    of_members (plus x) f = f
    of_members (and m) f = f

joins_plain : {s : List ℕ} {f : Form} {ps qs : List Place} {i j : ℕ} {g : Group} (w : Stands s f ps i g qs j)
    (p : ℕ) → Joins w p → Plain g → ⊥
joins_plain (Stands.name h) p x y = x
joins_plain (Stands.pcdata h w) p x y = x
joins_plain (Stands.group o t c) p x y = joins_plain t p x y
joins_plain (Stands.alone t) p x y = joins_plain t p x y
joins_plain (Stands.optional t h) p x y = joins_plain t p x y
joins_plain (Stands.repeated t h) p x y = joins_plain t p x y
joins_plain (Stands.any t h) p x y = joins_plain t p x y
joins_plain (Stands.first t) p x y = joins_plain t p x y
joins_plain (Stands.more {k = k} {g = g} {h = h} b t o e c u) p (inl x) y =
    joins_plain t p x ((parts_plain k b g h y).0)
joins_plain (Stands.more {k = k} {g = g} {h = h} b t o e c u) p (inr (inl x)) y =
    (parts_plain k b g h y).2 x.0
joins_plain (Stands.more {k = k} {g = g} {h = h} b t o e c u) p (inr (inr x)) y =
    joins_plain u p x ((parts_plain k b g h y).1)

repeats_unguarded : {s : List ℕ} {f : Form} {ps qs : List Place} {i j : ℕ} {g : Group}
    (w : Stands s f ps i g qs j) (p : ℕ) → Repeats w p → Guarded g → ⊥
repeats_unguarded (Stands.name h) p x y = x
repeats_unguarded (Stands.pcdata h w) p x y = x
repeats_unguarded (Stands.group o t c) p x y = repeats_unguarded t p x y
repeats_unguarded (Stands.alone t) p x y = repeats_unguarded t p x y
repeats_unguarded (Stands.optional t h) p x y = repeats_unguarded t p x y
repeats_unguarded (Stands.repeated t h) p x y = joins_plain t p x y
repeats_unguarded (Stands.any t h) p x y = joins_plain t p x y
repeats_unguarded (Stands.first t) p x y = repeats_unguarded t p x y
repeats_unguarded (Stands.more {k = k} {g = g} {h = h} b t o e c u) p (inl x) y =
    repeats_unguarded t p x ((parts_guarded k b g h y).0)
repeats_unguarded (Stands.more {k = k} {g = g} {h = h} b t o e c u) p (inr x) y =
    repeats_unguarded u p x ((parts_guarded k b g h y).1)

-- So it is of each model that was read: as it is written it has such an "&" exactly if it is not guarded.
index_of : (es : List Element) (e : Element) → Memᴰ e es → (k : ℕ) × (k < length es) × (element_at es k ≡ e)
unfolding element_at
index_of [] e m = elim m [ ]
index_of (x ∷ es) e (Memᴰ.head i) = (0, omega arith, sym i)
index_of (x ∷ es) e (Memᴰ.tail m) = let (k, l, q) = index_of es e m in (suc k, omega arith, q)

module _ (long : ℕ) (s : List ℕ) (es : List Element) (read : type_file long s ≡ got es) (g : Group)
    (ps : List Place) where
  pub written_so : ModelOf es g ps
      → (i : ℕ) × (j : ℕ) × (w : Stands s whole [] i g ps j) × ((Guarded g → ⊥) ↔ ((p : ℕ) × Repeats w p))
  written_so (e, n, m, c) =
      let (k, l, q) = index_of es e m in
      let (f, d) = subst (ElementFound long s) q (element_found long s es read k l) in
      go (subst (λ (v : Content). ContentFound long s v e.repeated) c f) d
    where
      go : ContentFound long s (model g ps n) e.repeated → (e.repeated ≡ 0 → GuardedIn e.content)
          → (i : ℕ) × (j : ℕ) × (w : Stands s whole [] i g ps j) × ((Guarded g → ⊥) ↔ ((p : ℕ) × Repeats w p))
      go (i, j, w, h) d = (i, j, w, (told, λ (p, r). repeats_unguarded w p r))
        where
          told : (Guarded g → ⊥) → (p : ℕ) × Repeats w p
          told u =
              bool_cases (eqb e.repeated 0)
              (λ z. absurd (u (subst GuardedIn c (d (eqb-true e.repeated 0 z)))))
              (λ z. (e.repeated, h.some (omega (arith, eqb-false e.repeated 0 z))))

pub repeats_first : (c : Settings) (s : List ℕ) (a : Answer) (es : List Element)
    → type_file c.name_length s ≡ got es → 1 ≤ first_repeated es → a.position ≡ first_repeated es
    → RepeatsFirst c s a
repeats_first c s a es read l at =
    let r = first_of c.name_length s es (element_found c.name_length s es read) l in
    go r r.element.content refl r.found
  where
    go : (r : FirstOf c.name_length s es) (x : Content) → r.element.content ≡ x
        → ContentFound c.name_length s x r.element.repeated → RepeatsFirst c s a
    go r empty e f = absurd (omega (arith, r.told, f))
    go r (model g ps n) e (i, j, w, f) =
        let here : a.position ≡ r.element.repeated = at ∙ r.told in
        let some : 1 ≤ r.element.repeated = omega (arith, r.told) in
        let order = type_file_order c.name_length s
        (λ from k. so (content_found c.name_length s from k) (λ n m z. z) (λ x z. z.1)) es read in
        let later = order_at r.earlier r.element r.later (subst InOrder r.parts order) in
        record {
          earlier = r.earlier;
          element = r.element;
          later = r.later;
          read = read ∙ ap got r.parts;
          unrepeated = r.unrepeated;
          none_before = r.clear;
          group = g;
          places = ps;
          tokens = n;
          content = e;
          begins = i;
          ends = j;
          written = w;
          such = subst (Repeats w) (sym here) (f.some some);
          first = λ p h. omega (arith, here, f.least some p h);
          unguarded = repeats_unguarded w;
          behind = λ x m. omega (arith, here, all_mem later m);
          ampersand = ap (byte_at s) at ∙ type_file_ampersand c.name_length s es read l;
        }
