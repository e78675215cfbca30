-- Under a type whose models are numbered from 1, have no "&" under "+" and no pair at fault, the walks can be decided: by the last place taken and by the set of
-- places taken.
use Prim.Native.Nat.{ℕ, zero, suc, ◌+◌, ◌-◌, ◌≤◌, ◌<◌}
use Rattle.std.specs.Prelude.{◌≡◌, refl, true, false, ◌&&◌, ◌↔◌, List, [], ◌∷◌}
use Rattle.std.proofs.Common.{sym, ◌∙◌, subst, arith}
use Rattle.std.proofs.Math.Bool.{Bool}
use Rattle.std.proofs.Math.Decide.{ℕ_discrete, dec_lt}
use Rattle.rules.specs.Bytes.{same_text}
use Rattle.rules.specs.Walk.{Group, place, Begins, Complete, Required}
use Rattle.rules.specs.Ambiguity.{PairAtFault}
use Rattle.rules.specs.TypeFile.{Place, Content, empty, model, Element}
use Rattle.rules.specs.Judge.{place_at, same_place, Unambiguous, AllUnambiguous}
use Rattle.rules.specs.Elements.{element_at, content_of}
use Rattle.rules.specs.Decisions.{Token, token_name, has_name, Fits, IsThe, Decisions, MeansAt, Means}
use Rattle.basic_laws.specs.Truth.{and_left, and_right, and_both, not_both, bool_cases}
use Rattle.model_sets.specs.Sets.{size, Numbered}
use Rattle.and_laws.specs.Numbers.{Guarded}
use Rattle.and_laws.specs.Begun.{next_of, complete_of, required_of, next_of_lem, complete_of_lem, required_of_lem, next_range, required_one}
use Rattle.rules_laws.specs.Groups.{GuardedIn}
use Rattle.rules_laws.specs.Names.{same_name_split, same_name_join}
use Rattle.text.specs.Words.{same_text_sym, same_text_split, same_text_more}

-- The decisions

-- The last of the places from 1 to n that passes the test, 0 if none does.
unfoldable pub search : (ℕ → Bool) → ℕ → ℕ
search f zero = 0
search f (suc n) = elim (f (suc n)) [ true ↦ suc n | false ↦ search f n ]

unfoldable pub fits_in : List ℕ → List Element → Content → List ℕ → Token → ℕ
fits_in s es empty taken t = 0
fits_in s es (model g ps n) taken t = search (λ p. has_name s es ps t p && next_of g taken p) (size g)

unfoldable pub is_complete_in : Content → List ℕ → Bool
is_complete_in empty taken = true
is_complete_in (model g ps n) taken = complete_of g taken

unfoldable pub required_for : Content → List ℕ → ℕ
required_for empty taken = 0
required_for (model g ps n) taken = required_of g taken

abbrev pub decided : List ℕ → List Element → Decisions
decided s es =
    record {
      fits = λ k taken t. fits_in s es (content_of es k) taken t;
      complete = λ k taken. is_complete_in (content_of es k) taken;
      required = λ k taken. required_for (content_of es k) taken;
    }

-- The search

pub search_passes : (f : ℕ → Bool) (n : ℕ) → 1 ≤ search f n → f (search f n) ≡ true
unfolding search
search_passes f zero h = absurd (omega arith)
search_passes f (suc n) h = bool_cases (f (suc n)) (λ e. rw (e, search) e) (λ e. rw (e, search) (search_passes f n (rw (e, search) at h)))

search_finds : (f : ℕ → Bool) (n p : ℕ) → 1 ≤ p → p ≤ n → f p ≡ true → 1 ≤ search f n
unfolding search
search_finds f zero p l h e = absurd (omega arith)
search_finds f (suc n) p l h e = bool_cases (f (suc n)) (λ x. rw (x, search) (omega arith)) (λ x. rw (x, search) (search_finds f n p l (below x (ℕ_discrete p (suc n))) e))
  where
    below : f (suc n) ≡ false → Dec (p ≡ suc n) → p ≤ n
    below x (yes z) = absurd (not_both x (rw z at e))
    below x (no z) = omega arith

-- Names

pub same_text_trans : (s : List ℕ) (a : ℕ) (t : List ℕ) (b : ℕ) (u : List ℕ) (c n : ℕ) → same_text s a t b n ≡ true → same_text t b u c n ≡ true → same_text s a u c n ≡ true
unfolding same_text
same_text_trans s a t b u c zero x y = refl
same_text_trans s a t b u c (suc n) x y =
    let (e, v) = same_text_split s a t b n x in
    let (f, w) = same_text_split t b u c n y in
    same_text_more s a u c n (e ∙ f) ∙ same_text_trans s (a + 1) t (b + 1) u (c + 1) n v w

-- Two places that have one token's name have the same name.
pub names_same : (s : List ℕ) (es : List Element) (ps : List Place) (t : Token) (p q : ℕ) → has_name s es ps t p ≡ true → has_name s es ps t q ≡ true → same_place s ps p q ≡ true
names_same s es ps t p q x y =
    let o = token_name es t in
    let u = place_at ps (p - 1) in
    let v = place_at ps (q - 1) in
    let (e, a) = same_name_split s o.at o.size u.at u.size x in
    let (f, b) = same_name_split s o.at o.size v.at v.size y in
    let z : u.size ≡ v.size = sym e ∙ f in
    same_name_join s u.at u.size v.at v.size z
    (same_text_trans s u.at s o.at s v.at v.size (rw z at (same_text_sym s o.at s u.at u.size a)) b)

-- One model

module _ (s : List ℕ) (es : List Element) (g : Group) (ps : List Place) (numbered : Numbered g 1) (guarded : Guarded g) (fair : (p q : ℕ) → PairAtFault (same_place s ps) g p q → ⊥) (taken : List ℕ) (begun : Begins g taken) where
  -- A token fits as one place only.
  fits_once : (t : Token) (p q : ℕ) → Fits s es g ps taken t p → Fits s es g ps taken t q → p ≡ q
  fits_once t p q x y = go (dec_lt p q) (dec_lt q p)
    where
      go : Dec (p < q) → Dec (q < p) → p ≡ q
      go (yes l) d = absurd (fair p q (l, names_same s es ps t p q x.name y.name, taken, x.next, y.next))
      go (no m) (yes l) = absurd (fair q p (l, names_same s es ps t q p y.name x.name, taken, y.next, x.next))
      go (no m) (no l) = omega arith

  pub fits_means : (n : ℕ) (t : Token) → IsThe (Fits s es g ps taken t) (fits_in s es (model g ps n) taken t)
  unfolding fits_in
  fits_means n t = record { some = found; only = λ p x. fits_once t (search f (size g)) p (found (reached p x)) x }
    where
      f : ℕ → Bool
      f p = has_name s es ps t p && next_of g taken p

      found : 1 ≤ search f (size g) → Fits s es g ps taken t (search f (size g))
      found l =
          let e = search_passes f (size g) l in
          let p = search f (size g) in
          record { name = and_left (has_name s es ps t p) _ e; next = (next_of_lem g numbered guarded taken begun p).0 (and_right (has_name s es ps t p) _ e) }

      reached : (p : ℕ) → Fits s es g ps taken t p → 1 ≤ search f (size g)
      reached p x =
          let e = (next_of_lem g numbered guarded taken begun p).1 x.next in
          let (l, h) = next_range g numbered guarded taken p x.next in
          search_finds f (size g) p l h (and_both x.name e)

  pub required_means : (n : ℕ) → IsThe (Required g taken) (required_for (model g ps n) taken)
  unfolding required_for
  required_means n =
      record {
        some = λ l. (required_of_lem g numbered guarded taken begun (required_of g taken) l).0 refl;
        only = λ p r. required_one g numbered guarded taken p r;
      }

  pub complete_means : (n : ℕ) → (is_complete_in (model g ps n) taken ≡ true) ↔ Complete g taken
  unfolding is_complete_in
  complete_means n = complete_of_lem g numbered guarded taken begun

-- Every model

-- The places of a model are numbered from 1, left to right.
abbrev pub NumberedIn : Content → Type 0
NumberedIn empty = Unit {0}
NumberedIn (model g ps n) = Numbered g 1

abbrev pub AllNumbered : List Element → Type 0
AllNumbered [] = Unit {0}
AllNumbered (e ∷ es) = NumberedIn e.content × AllNumbered es

-- No "&" group of a model stands in what carries "+" or "*", in any of them.
abbrev pub AllGuarded : List Element → Type 0
AllGuarded [] = Unit {0}
AllGuarded (e ∷ es) = GuardedIn e.content × AllGuarded es

element_guarded : (es : List Element) → AllGuarded es → (k : ℕ) → GuardedIn (element_at es k).content
unfolding element_at
element_guarded [] d k = tt
element_guarded (e ∷ es) d zero = d.0
element_guarded (e ∷ es) d (suc k) = element_guarded es d.1 k

pub content_guarded : (es : List Element) → AllGuarded es → (k : ℕ) → GuardedIn (content_of es k)
content_guarded es d zero = refl
content_guarded es d (suc k) = element_guarded es d k

-- What the decisions need of an element's content.
abbrev pub Fair : List ℕ → Content → Type 0
Fair s c = NumberedIn c × GuardedIn c × Unambiguous s c

element_fair : (s : List ℕ) (es : List Element) → AllNumbered es → AllGuarded es → AllUnambiguous s es → (k : ℕ) → Fair s (element_at es k).content
unfolding element_at
element_fair s [] a d u k = (tt, tt, tt)
element_fair s (e ∷ es) a d u zero = (a.0, d.0, u.0)
element_fair s (e ∷ es) a d u (suc k) = element_fair s es a.1 d.1 u.1 k

-- The document itself has one place.
document_fair : (same : ℕ → ℕ → Bool) (p q : ℕ) → PairAtFault same (place 1) p q → ⊥
document_fair same p q (l, e, t, a, b) =
    let x = next_range (place 1) refl refl t p a in
    let y = next_range (place 1) refl refl t q b in
    omega arith

content_fair : (s : List ℕ) (es : List Element) → AllNumbered es → AllGuarded es → AllUnambiguous s es → (k : ℕ) → Fair s (content_of es k)
content_fair s es a d u zero = (refl, refl, document_fair _)
content_fair s es a d u (suc k) = element_fair s es a d u k

module _ (s : List ℕ) (es : List Element) (numbered : AllNumbered es) (guarded : AllGuarded es) (unambiguous : AllUnambiguous s es) where
  fair : (k : ℕ) {g : Group} {ps : List Place} {n : ℕ} → content_of es k ≡ model g ps n → Fair s (model g ps n)
  fair k c = subst (Fair s) c (content_fair s es numbered guarded unambiguous k)

  decided_walks : (k : ℕ) {g : Group} {ps : List Place} {n : ℕ} → content_of es k ≡ model g ps n → (taken : List ℕ) → Begins g taken → MeansAt s es (decided s es) k g ps taken
  decided_walks k {g} {ps} {n} c taken b =
      let (i, d, u) = fair k c in
      record {
        fits = λ t. subst (λ (x : Content). IsThe (Fits s es g ps taken t) (fits_in s es x taken t)) (sym c) (fits_means s es g ps i d u taken b n t);
        complete = subst (λ (x : Content). (is_complete_in x taken ≡ true) ↔ Complete g taken) (sym c) (complete_means s es g ps i d u taken b n);
        required = subst (λ (x : Content). IsThe (Required g taken) (required_for x taken)) (sym c) (required_means s es g ps i d u taken b n);
      }

  -- The decisions exist.
  pub decided_means : Means s es (decided s es)
  decided_means = record { walks = decided_walks }
