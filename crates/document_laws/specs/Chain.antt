-- The chain that is looked for within as many elements as there are is the shortest of all chains, and is found if there is any.
use Prim.Native.Nat.{ℕ, zero, suc, ◌+◌, ◌-◌, ◌≤◌, ◌<◌}
use Rattle.std.specs.Prelude.{◌≡◌, Bool, ◌&&◌, length, eqb}
use Rattle.std.proofs.Math.Path.{refl, ap}
use Rattle.std.proofs.Common.{sym, ◌∙◌, ap₂, subst, ⊎_elim, arith, leb-true, eqb-true}
use Rattle.std.proofs.Math.Bool.{true, false}
use Rattle.std.proofs.lemmas.Bool.{false≢true, eqb-false}
use mathlib.Core.List.{List, [], ◌∷◌, Memᴰ}
use Rattle.std.proofs.Math.Decide.{ℕ_discrete}
use Rattle.std.proofs.Math.Dec.{leb}
use Rattle.rules.specs.TypeFile.{Place, Element}
use Rattle.rules.specs.Elements.{content_of, places_in, has_model, start_o, number_from, number_of, is_named}
use Rattle.rules.specs.Decisions.{Token, Decisions}
use Rattle.rules.specs.Settling.{Open, element_of, fitting, required_place, inferable, chain}
use Rattle.rules.specs.Judge.{place_at}
use Rattle.basic_laws.specs.Truth.{and_left, and_right, bool_cases}

-- Lists without a number twice

abbrev Once : List ℕ → Type 0
Once [] = Unit {0}
Once (k ∷ ks) = (Memᴰ k ks → ⊥) × Once ks

member : (k : ℕ) (ks : List ℕ) → Dec (Memᴰ k ks)
member k [] = no mathlib.Core.List.Memᴰ.not-nil
member k (j ∷ ks) = go (ℕ_discrete k j) (member k ks)
  where
    go : Dec (k ≡ j) → Dec (Memᴰ k ks) → Dec (Memᴰ k (j ∷ ks))
    go (yes e) d = yes (mathlib.Core.List.Memᴰ.head e)
    go (no e) (yes m) = yes (mathlib.Core.List.Memᴰ.tail m)
    go (no e) (no m) = no (λ x. ⊎_elim e m (mathlib.Core.List.Memᴰ.cases_cons x))

without : ℕ → List ℕ → List ℕ
without m [] = []
without m (k ∷ ks) = elim (eqb k m) [ true ↦ ks | false ↦ k ∷ without m ks ]

without_length : (m : ℕ) (ks : List ℕ) → length ks ≤ suc (length (without m ks))
unfolding without
without_length m [] = omega arith
without_length m (k ∷ ks) = bool_cases (eqb k m) (λ e. rw (e, without) (omega arith)) (λ e. rw (e, without) (omega (arith, without_length m ks)))

without_member : (m p : ℕ) (ks : List ℕ) → Once ks → Memᴰ p (without m ks) → Memᴰ p ks × (p ≡ m → ⊥)
unfolding without
without_member m p [] o x = absurd (mathlib.Core.List.Memᴰ.not-nil x)
without_member m p (k ∷ ks) (a, o) x = bool_cases (eqb k m) here (there (without_member m p ks o))
  where
    here : eqb k m ≡ true → Memᴰ p (k ∷ ks) × (p ≡ m → ⊥)
    here e =
        let y : Memᴰ p ks = rw (e, without) at x in
        (mathlib.Core.List.Memᴰ.tail y, λ q. a (rw (eqb-true k m e ∙ sym q) y))

    there : (Memᴰ p (without m ks) → Memᴰ p ks × (p ≡ m → ⊥)) → eqb k m ≡ false → Memᴰ p (k ∷ ks) × (p ≡ m → ⊥)
    there ih e =
        let y : Memᴰ p (k ∷ without m ks) = rw (e, without) at x in
        ⊎_elim (λ q. (mathlib.Core.List.Memᴰ.head q, λ z. eqb-false k m e (sym q ∙ z))) (λ z. let (u, v) = ih z in (mathlib.Core.List.Memᴰ.tail u, v)) (mathlib.Core.List.Memᴰ.cases_cons y)

without_once : (m : ℕ) (ks : List ℕ) → Once ks → Once (without m ks)
unfolding without
without_once m [] o = tt
without_once m (k ∷ ks) (a, o) = bool_cases (eqb k m) (λ e. rw (e, without) o) (λ e. rw (e, without) (λ x. a (without_member m k ks o x).0, without_once m ks o))

-- Numbers from 1 to n, none of them twice, are at most n.
few : (n : ℕ) (ks : List ℕ) → Once ks → ((p : ℕ) → Memᴰ p ks → (1 ≤ p) × (p ≤ n)) → length ks ≤ n
few zero [] o r = omega arith
few zero (k ∷ ks) o r = absurd (omega (arith, r k (mathlib.Core.List.Memᴰ.head refl)))
few (suc n) ks o r = omega (arith, without_length (suc n) ks, few n (without (suc n) ks) (without_once (suc n) ks o) less)
  where
    less : (p : ℕ) → Memᴰ p (without (suc n) ks) → (1 ≤ p) × (p ≤ n)
    less p x =
        let (m, d) = without_member (suc n) p ks o x in
        let b = r p m in
        (b.0, omega (arith, b.1, d))

-- An element's number is one of the elements'.
pub number_from_range : (s t : List ℕ) (at size k : ℕ) (es : List Element) → 1 ≤ k → number_from k s es t at size < k + length es
unfolding number_from
number_from_range s t at size k [] l = omega arith
number_from_range s t at size k (e ∷ es) l =
    bool_cases (is_named s e t at size) (λ x. rw (x, number_from) (omega arith)) (λ x. rw (x, number_from) (omega (arith, number_from_range s t at size (k + 1) es (omega arith))))

-- One turn of a chain: the element k, as which place the token fits at its start, and the rest of the chain.
unfoldable pub link : ℕ → ℕ → List ℕ → List ℕ
link k f r = elim (leb 1 k) [ true ↦ elim (leb 1 f) [ true ↦ k ∷ [] | false ↦ elim r [ [] ↦ [] | j ∷ js ↦ k ∷ j ∷ js ] ] | false ↦ [] ]

pub link_same : (k f g : ℕ) (r q : List ℕ) → (leb 1 k ≡ true → (f ≡ g) × (r ≡ q)) → link k f r ≡ link k g q
unfolding link
link_same k f g r q h = bool_cases (leb 1 k) (λ e. ap₂ (link k) (h e).0 (h e).1) (λ e. rw (e, link))

link_fits : (k f : ℕ) (r : List ℕ) → leb 1 k ≡ true → leb 1 f ≡ true → link k f r ≡ k ∷ []
unfolding link
link_fits k f r i e = rw (link, i, e)

link_on : (k f : ℕ) (r : List ℕ) (j : ℕ) (js : List ℕ) → leb 1 k ≡ true → leb 1 f ≡ false → r ≡ j ∷ js → link k f r ≡ k ∷ j ∷ js
unfolding link
link_on k f r j js i e c = rw (link, i, e, c)

link_none : (k f : ℕ) → leb 1 k ≡ true → leb 1 f ≡ false → link k f [] ≡ []
unfolding link
link_none k f i e = rw (link, i, e)

-- The element to infer in the element number n where the place p is required: 0 where it may not be inferred.
unfoldable pub chosen : List ℕ → List Element → (n p : ℕ) → ℕ
chosen s es n p =
    let k = element_of s es (record { element = n; taken = [] }) p in
    elim (leb 1 p && (leb 1 k && (start_o es k && has_model (content_of es k)))) [ true ↦ k | false ↦ 0 ]

pub inferable_is : (s : List ℕ) (es : List Element) (D : Decisions) (o : Open) → inferable s es D o ≡ chosen s es o.element (required_place s es D o)
unfolding inferable chosen
inferable_is s es D o = refl

-- Its place is required, it is one of the elements, its start is "O", and it has a model.
pub record MayInfer (es : List Element) (p k : ℕ) : Type 0 where
  pub place : 1 ≤ p
  pub declared : k ≤ length es
  pub start : start_o es k ≡ true
  pub model : has_model (content_of es k) ≡ true

chosen_may : (s : List ℕ) (es : List Element) (n p : ℕ) → leb 1 (chosen s es n p) ≡ true → MayInfer es p (chosen s es n p)
unfolding chosen number_of
chosen_may s es n p h = go test refl h
  where
    x : Place
    x = place_at (places_in (content_of es n)) (p - 1)

    k : ℕ
    k = number_of s es s x.at x.size

    test : Bool
    test = leb 1 p && (leb 1 k && (start_o es k && has_model (content_of es k)))

    go : (c : Bool) → test ≡ c → leb 1 (elim c [ true ↦ k | false ↦ 0 ]) ≡ true → MayInfer es p (elim c [ true ↦ k | false ↦ 0 ])
    go true e l =
        record {
          place = leb-true 1 p (and_left (leb 1 p) _ e);
          declared = omega (arith, number_from_range s s x.at x.size 1 es (omega arith));
          start = and_left (start_o es k) _ (and_right (leb 1 k) _ (and_right (leb 1 p) _ e));
          model = and_right (start_o es k) _ (and_right (leb 1 k) _ (and_right (leb 1 p) _ e));
        }
    go false e l = absurd (false≢true l)

pub inferable_may : (s : List ℕ) (es : List Element) (D : Decisions) (o : Open) → leb 1 (inferable s es D o) ≡ true → MayInfer es (required_place s es D o) (inferable s es D o)
inferable_may s es D o h = rw (inferable_is s es D o) (chosen_may s es o.element (required_place s es D o) (rw (inferable_is s es D o) at h))

-- The start of an element that is inferred has the name of the place that it takes.
pub inferable_named : (s : List ℕ) (es : List Element) (D : Decisions) (o : Open) (k : ℕ) → inferable s es D o ≡ k → 1 ≤ k → element_of s es o (required_place s es D o) ≡ k
unfolding inferable
inferable_named s es D o k e l = go (leb 1 p && (leb 1 j && (start_o es j && has_model (content_of es j)))) refl e
  where
    p : ℕ
    p = required_place s es D o

    j : ℕ
    j = element_of s es o p

    go : (b : Bool) → (leb 1 p && (leb 1 j && (start_o es j && has_model (content_of es j)))) ≡ b → elim b [ true ↦ j | false ↦ 0 ] ≡ k → j ≡ k
    go true i f = f
    go false i f = absurd (omega arith)

-- An element in which nothing was taken yet.
abbrev pub fresh : ℕ → Open
fresh k = record { element = k; taken = [] }

module _ (s : List ℕ) (es : List Element) (D : Decisions) (t : Token) where
  -- The elements ks follow one another from o, each the one to infer in the one before, and the token fits at the last (at o, if there is none).
  abbrev pub Leads : Open → List ℕ → Type 0
  Leads o [] = leb 1 (fitting s es D o t) ≡ true
  Leads o (k ∷ ks) = (inferable s es D o ≡ k) × (leb 1 k ≡ true) × Leads (fresh k) ks

  leads_range : (o : Open) (ks : List ℕ) → Leads o ks → (p : ℕ) → Memᴰ p ks → (1 ≤ p) × (p ≤ length es)
  leads_range o [] l p m = absurd (mathlib.Core.List.Memᴰ.not-nil m)
  leads_range o (k ∷ ks) (e, i, l) p m = ⊎_elim (λ q. rw q (leb-true 1 k i, bound)) (leads_range (fresh k) ks l p) (mathlib.Core.List.Memᴰ.cases_cons m)
    where
      bound : k ≤ length es
      bound = rw e at (inferable_may s es D o (rw e i)).declared

  -- What follows an element of a chain follows that element anywhere.
  cut : (o : Open) (k : ℕ) (js : List ℕ) → Leads o js → Once js → Memᴰ k js → (ks : List ℕ) × Leads (fresh k) ks × Once (k ∷ ks) × (length ks ≤ length js)
  cut o k [] l a m = absurd (mathlib.Core.List.Memᴰ.not-nil m)
  cut o k (j ∷ js) (e, i, l) (a, b) m =
      ⊎_elim (λ q. (js, rw q l, (rw q a, b), omega arith))
      (λ n. let (ks, x, y, z) = cut (fresh j) k js l b n in (ks, x, y, omega arith))
      (mathlib.Core.List.Memᴰ.cases_cons m)

  -- Behind k there is a chain that is no longer, has no element twice, and does not have k again.
  loop_free : (k : ℕ) (ks : List ℕ) → Leads (fresh k) ks → (js : List ℕ) × Leads (fresh k) js × Once (k ∷ js) × (length js ≤ length ks)
  loop_free k [] l = ([], l, (mathlib.Core.List.Memᴰ.not-nil, tt), omega arith)
  loop_free k (j ∷ ks) (e, i, l) = go (loop_free j ks l)
    where
      go : (js : List ℕ) × Leads (fresh j) js × Once (j ∷ js) × (length js ≤ length ks) → (js : List ℕ) × Leads (fresh k) js × Once (k ∷ js) × (length js ≤ length (j ∷ ks))
      go (js, m, a, b) = by_member (member k (j ∷ js))
        where
          by_member : Dec (Memᴰ k (j ∷ js)) → (us : List ℕ) × Leads (fresh k) us × Once (k ∷ us) × (length us ≤ length (j ∷ ks))
          by_member (yes x) = let (us, u, v, w) = cut (fresh k) k (j ∷ js) (e, i, m) a x in (us, u, v, omega arith)
          by_member (no x) = (j ∷ js, (e, i, m), (x, a), omega arith)

  pub chain_step : (n : ℕ) (o : Open) (k : ℕ) → inferable s es D o ≡ k → chain s es D (suc n) t o ≡ link k (fitting s es D (fresh k) t) (chain s es D n t (fresh k))
  unfolding chain link
  chain_step n o k e = ap (λ k. link k (fitting s es D (fresh k) t) (chain s es D n t (fresh k))) e

  -- Where there is a chain of at most n, one is found among n, and it is no longer.
  chain_finds : (n : ℕ) (o : Open) (k : ℕ) (ks : List ℕ) → Leads o (k ∷ ks) → length ks < n → (js : List ℕ) × (chain s es D n t o ≡ k ∷ js) × (length js ≤ length ks)
  chain_finds zero o k ks l b = absurd (omega arith)
  chain_finds (suc n) o k ks (e, i, l) b = bool_cases (leb 1 (fitting s es D (fresh k) t)) (λ f. ([], chain_step n o k e ∙ link_fits k _ _ i f, omega arith)) (λ f. further ks l b f (λ j js m c. chain_finds n (fresh k) j js m c))
    where
      further : (ks : List ℕ) → Leads (fresh k) ks → length ks < suc n → leb 1 (fitting s es D (fresh k) t) ≡ false
          → ((j : ℕ) (js : List ℕ) → Leads (fresh k) (j ∷ js) → length js < n → (us : List ℕ) × (chain s es D n t (fresh k) ≡ j ∷ us) × (length us ≤ length js))
          → (js : List ℕ) × (chain s es D (suc n) t o ≡ k ∷ js) × (length js ≤ length ks)
      further [] l b f ih = absurd (false≢true (sym f ∙ l))
      further (j ∷ js) l b f ih = let (us, c, d) = ih j js l (omega arith) in (j ∷ us, chain_step n o k e ∙ link_on k _ _ j us i f c, omega arith)

  -- If there is a chain, one is found, and none is shorter.
  pub chain_shortest : (o : Open) (k : ℕ) (ks : List ℕ) → Leads o (k ∷ ks) → (js : List ℕ) × (chain s es D (length es) t o ≡ k ∷ js) × (length js ≤ length ks)
  chain_shortest o k ks (e, i, l) =
      let (us, m, a, b) = loop_free k ks l in
      let c = few (length es) (k ∷ us) a (leads_range o (k ∷ us) (e, i, m)) in
      let (js, f, d) = chain_finds (length es) o k us (e, i, m) (omega arith) in
      (js, f, omega arith)

  abbrev Led : Open → List ℕ → Type 0
  Led o [] = Unit {0}
  Led o (k ∷ ks) = Leads o (k ∷ ks)

  link_led : (o : Open) (k : ℕ) (r : List ℕ) → inferable s es D o ≡ k → Led (fresh k) r → Led o (link k (fitting s es D (fresh k) t) r)
  unfolding link
  link_led o k r e c = bool_cases (leb 1 k) (λ i. bool_cases (leb 1 (fitting s es D (fresh k) t)) (λ f. rw (link_fits k _ r i f) (e, i, f)) (λ f. by_rest i f r c)) (λ i. rw (i, link) tt)
    where
      by_rest : leb 1 k ≡ true → leb 1 (fitting s es D (fresh k) t) ≡ false → (r : List ℕ) → Led (fresh k) r → Led o (link k (fitting s es D (fresh k) t) r)
      by_rest i f [] c = rw (link_none k _ i f) tt
      by_rest i f (j ∷ js) c = rw (link_on k _ (j ∷ js) j js i f refl) (e, i, c)

  led : (n : ℕ) (o : Open) → Led o (chain s es D n t o)
  unfolding chain
  led zero o = tt
  led (suc n) o =
      let k = inferable s es D o in
      rw (chain_step n o k refl) (link_led o k (chain s es D n t (fresh k)) refl (led n (fresh k)))

  -- What is found is a chain.
  pub chain_leads : (n : ℕ) (o : Open) (k : ℕ) (ks : List ℕ) → chain s es D n t o ≡ k ∷ ks → Leads o (k ∷ ks)
  chain_leads n o k ks e = subst (Led o) e (led n o)
