-- The models of a type that is accepted: numbered, guarded, of at most 96 places; what is required in them is one of their places.
use Prim.Native.Nat.{ℕ, zero, suc, ◌+◌, ◌≤◌, ◌<◌}
use Rattle.std.specs.Prelude.{◌≡◌, Bool, true, false, get_or, leb}
use Rattle.std.proofs.Math.Path.{refl}
use Rattle.std.proofs.Common.{sym, ◌∙◌, ap, subst, le-leb, leb-true}
use mathlib.Core.List.{List, []}
use native.Mathlib.Omega.{arith}
use Rattle.std.proofs.Math.ListN.{length}
use Rattle.std.proofs.lemmas.Bool.{lt-leb}
use Rattle.rules.specs.Settings.{Settings}
use Rattle.rules.specs.Walk.{Group, Begins}
use Rattle.rules.specs.TypeFile.{Place, Content, empty, model, Element}
use Rattle.rules.specs.Judge.{Accepts}
use Rattle.rules.specs.Elements.{content_of, places_in}
use Rattle.model_sets.specs.Sets.{size, Numbered}
use Rattle.and_laws.specs.Numbers.{Guarded}
use Rattle.and_laws.specs.Begun.{required_of, required_of_lem, next_range, begins_none}
use Rattle.rules_laws.specs.Groups.{GuardedIn}
use Rattle.rules.specs.Bytes.{GRPGTCNT}
use Rattle.layout.specs.Sizes.{REQUIRED}
use Rattle.document_laws.specs.Decide.{required_for, is_complete_in, content_guarded}
use Rattle.document_laws.specs.Numbers.{type_file_guarded}
use Rattle.type_laws.specs.Width.{type_file_width}
use Rattle.type_tables.specs.Tables.{width, row_at, place_or0, complete_row, required_row, complete_at, required_at, Rows}

-- One model

-- The group is that of the element's model.
pub record Modelled (es : List Element) (k : ℕ) (g : Group) : Type 0 where
  pub numbered : Numbered g 1
  pub guarded : Guarded g
  pub few : size g ≤ GRPGTCNT
  pub wide : size g ≡ width es k

module _ {c : Settings} (s : List ℕ) (es : List Element) (accepted : Accepts c s es) (k : ℕ) where
  pub modelled : {g : Group} {ps : List Place} {n : ℕ} → content_of es k ≡ model g ps n → Modelled es k g
  modelled {g} {ps} {n} e =
      let (counted, few, numbered) = type_file_width c.name_length s es accepted.elements k e in
      record {
        numbered = numbered;
        guarded = subst GuardedIn e (content_guarded es (type_file_guarded c.name_length s es accepted.elements accepted.unrepeated) k);
        few = few;
        wide = counted ∙ ap (λ (x : Content). length (places_in x)) (sym e);
      }

  pub width_most : width es k ≤ GRPGTCNT
  width_most = go (content_of es k) refl
    where
      go : (x : Content) → content_of es k ≡ x → length (places_in x) ≤ GRPGTCNT
      go empty e = omega arith
      go (model g ps n) e = omega (arith, type_file_width c.name_length s es accepted.elements k e)

  -- What is required after a beginning is one of the model's places.
  pub required_most : (taken : List ℕ) → ((g : Group) (ps : List Place) (n : ℕ) → content_of es k ≡ model g ps n → Begins g taken) → required_for (content_of es k) taken ≤ width es k
  unfolding required_for
  required_most taken = go (content_of es k) refl
    where
      go : (x : Content) → content_of es k ≡ x → ((g : Group) (ps : List Place) (n : ℕ) → content_of es k ≡ model g ps n → Begins g taken) → required_for x taken ≤ length (places_in x)
      go empty e b = omega arith
      go (model g ps n) e b =
          let (counted, few, numbered) = type_file_width c.name_length s es accepted.elements k e in
          by (required_of g taken) refl numbered (modelled e).guarded counted (b g ps n e)
        where
          by : (p : ℕ) → required_of g taken ≡ p → Numbered g 1 → Guarded g → size g ≡ length ps → Begins g taken → p ≤ length ps
          by zero z numbered guarded counted b = omega arith
          by (suc p) z numbered guarded counted b = omega (arith, next_range g numbered guarded taken (suc p) ((required_of_lem g numbered guarded taken b (suc p) (omega arith)).0 z).next)

-- The number that is kept as a place

pub kept_place : (n : ℕ) → n ≤ GRPGTCNT → place_or0 n ≡ n
kept_place n l = rw (le-leb n GRPGTCNT l, place_or0)

pub no_place : (n : ℕ) → GRPGTCNT < n → place_or0 n ≡ 0
no_place n l = rw (lt-leb n GRPGTCNT l, place_or0)

place_most : (n : ℕ) → place_or0 n ≤ GRPGTCNT
place_most n = by_test (leb n GRPGTCNT) refl
  where
    by_test : (b : Bool) → leb n GRPGTCNT ≡ b → elim b [ true ↦ n | false ↦ 0 ] ≤ GRPGTCNT
    by_test true e = leb-true n GRPGTCNT e
    by_test false e = omega arith

-- Whatever the rows hold, what is required is a place or 0.
pub required_small : (rows : List ℕ) (e u : ℕ) → required_at rows e u ≤ GRPGTCNT
required_small rows e u = place_most (get_or rows (row_at e u + REQUIRED) 0)

-- At the start the rows decide.
module _ {c : Settings} (s : List ℕ) (es : List Element) (accepted : Accepts c s es) (raised : ℕ → Bool) (rows : List ℕ) (said : Rows es raised rows) (e : ℕ) (declared : e ≤ length es) where
  pub start_complete : complete_at rows e 0 ≡ is_complete_in (content_of es e) []
  unfolding is_complete_in
  start_complete = said.complete e 0 declared (omega arith) ∙ go (content_of es e)
    where
      go : (x : Content) → complete_row x 0 ≡ is_complete_in x []
      go empty = refl
      go (model g ps n) = refl

  pub start_required : required_at rows e 0 ≡ required_for (content_of es e) []
  unfolding required_for
  start_required =
      let read = said.required e 0 declared (omega arith) ∙ go (content_of es e) in
      kept_place (get_or rows (row_at e 0 + REQUIRED) 0) (omega (arith, read, required_most s es accepted e [] (λ g ps n z. begins_none g), width_most s es accepted e)) ∙ read
    where
      go : (x : Content) → required_row x 0 ≡ required_for x []
      go empty = refl
      go (model g ps n) = refl
