-- Laws of a name and of `#PCDATA` as content tokens, and of the place that each is.
use Rattle.std.specs.Prelude.{ℕ, suc, ◌+◌, ◌-◌, ◌*◌, ◌≤◌, ◌<◌, ◌≡◌, refl, Bool, true, false, List, [], ◌∷◌, ◌++◌, length}
use Rattle.std.proofs.Common.{sym, ap, ◌∙◌, append-nil, arith, lt-ltb, le-ltb}
use Rattle.model_code.specs.Codes.{OPT_CODE, PLUS_CODE}
use Rattle.rules.specs.Bytes.{byte_at, letter, name_end, GRPGTCNT}
use Rattle.rules.specs.Reading.{refused, got}
use Rattle.rules.specs.Walk.{Group, place, plus, star}
use Rattle.rules.specs.TypeFile.{Place, Tokens, occurrence, new_place, name_token, data_token, is_word, is_cut, PCDATA}
use Rattle.text.specs.Words.{cut_or}
use Rattle.layout.specs.Sizes.{MODEL}
use Rattle.model_sets.specs.Sets.{Numbered}
use Rattle.model_sets.specs.Sets as sets
use Rattle.model_links.specs.Behind.{Behind, behind_on}
use Rattle.model_table.specs.declared.Part.{Part}
use Rattle.model_table.specs.Fill.{part, part_of, repeated, put_place}
use Rattle.model_table.specs.Shows.{Filled, placed, repeats}
use Rattle.model_table.specs.Behind.{place_behind, repeated_behind}
use Rattle.model_code.specs.Six.{put_code, code_next}
use Rattle.model_code.specs.Spelled.{codes, code_in}
use Rattle.model_names.specs.Places.{places_of}
use Rattle.model_names.specs.Shared.{places_of_length}
use Rattle.connectors.specs.declared.Model.{Model}
use Rattle.connectors.specs.Kept.{begun, Ready, Tabled, Keeps}
use Rattle.connectors.specs.Grown.{joins_one, ready_more, tabled_put, tabled_on}
use Rattle.content_tokens.specs.Meets.{wrong_data}

-- A new place is put.

module _ (end at at' size places tokens n : ℕ) (T names₀ names : List ℕ) (h : at' ≤ end) (i : places ≤ tokens) (j : tokens < GRPGTCNT)
    (e : places_of names (places + 1) ≡ places_of names₀ places ++ record { at = at; size = size } ∷ []) where
  abbrev pub new_tokens : Group → Tokens
  new_tokens g = record { group = g; at = at'; places = places_of names₀ places ++ record { at = at; size = size } ∷ []; tokens = tokens + 1; and = 0; repeated = 0 }

  abbrev pub new_model : Part → (code : ℕ) → Model
  new_model p c = record { at = at'; places = places + 1; tokens = tokens + 1; part = p; code = c; and = 0; repeated = 0 }

  counted : suc (length (places_of names₀ places)) ≡ places + 1
  counted = omega (arith, places_of_length names₀ places)

  -- This is kept where the place is the group g, or has an indicator.
  new_keeps : (d c : ℕ) (g : ℕ → Group) (p : Part) (S : List ℕ) → p ≡ part_of (g (places + 1)) → Numbered (g (places + 1)) (places + 1) → sets.size (g (places + 1)) ≡ 1
      → (Ready (begun (places + 1) T n d) → Tabled (begun (places + 1) T n d) (g (places + 1)) (codes (g (places + 1))) (tokens + 1) S c)
      → Keeps end (begun (places + 1) T n d) 1 0 names S (new_model p c) (new_tokens (g (suc (length (places_of names₀ places)))))
  new_keeps d c g p S q a z f =
      let l : length (places_of names₀ places ++ record { at = at; size = size } ∷ []) ≡ places + 1 = ap length (sym e) ∙ places_of_length names (places + 1) in
      rw counted
      (record {
        at = refl;
        places = sym l;
        tokens = refl;
        part = q;
        and_at = refl;
        repeated_at = refl;
        names_hold = e;
        tabled = f;
        joins = joins_one (g (places + 1));
        from = omega arith;
        numbered = a;
        counted = omega arith;
        at_in = h;
        places_in_lem = omega arith;
        tokens_in_lem = omega arith;
      })

  module _ (R : List ℕ) (f : R ≡ put_place T (places + 1)) where
    place_filled : length T ≡ MODEL → Filled (place (places + 1)) (places + 1) T R
    place_filled len = rw f (placed (places + 1) (places + 1) T (omega arith) (omega arith) refl len)

    place_kept : Behind T R
    place_kept = rw f (place_behind T (places + 1) (omega arith))

    pub new_place_lem : (p : Part) (S : List ℕ) (c : ℕ) → p ≡ part false (places + 1) → S ≡ put_code R n (places + 1) → c ≡ code_next n
        → Keeps end (begun (places + 1) T n (4 * tokens + 3 + 2)) 1 0 names S (new_model p c) (new_tokens (new_place (places_of names₀ places)))
    new_place_lem p S c q s k =
        new_keeps (4 * tokens + 3 + 2) c place p S q refl refl
        (λ ready.
        rw (s, k)
        (tabled_on (places + 1) T n (4 * tokens + 3 + 2) (tokens + 1) n (places + 1) (place (places + 1)) [] T R ready (omega arith) (omega arith) (place_filled ready.len) place_kept (sym (append-nil (code_in T n))) (omega arith)))

    -- A `#PCDATA` repeats or is left out.
    pub new_data : (p : Part) (Q S₁ S₂ S : List ℕ) (c₁ c₂ c : ℕ) → p ≡ part true 0 → Q ≡ repeated R (places + 1) (places + 1 + 1) → S₁ ≡ put_code Q n (places + 1) → c₁ ≡ code_next n
        → S₂ ≡ put_code S₁ c₁ PLUS_CODE → c₂ ≡ code_next c₁ → S ≡ put_code S₂ c₂ OPT_CODE → c ≡ code_next c₂
        → Keeps end (begun (places + 1) T n (4 * tokens + 3)) 1 0 names S (new_model p c) (new_tokens (star (new_place (places_of names₀ places))))
    new_data p Q S₁ S₂ S c₁ c₂ c q r s₁ k₁ s₂ k₂ s k =
        new_keeps (4 * tokens + 3) c (λ x. star (place x)) p S q refl refl
        (λ ready.
        let lo : ℕ = places + 1 in
        let g : Group = place lo in
        let d : ℕ = 4 * tokens + 3 in
        let on : Behind T Q = rw r (behind_on place_kept (repeated_behind R lo (lo + 1) (omega arith) (omega arith))) in
        let filled : Filled (plus g) lo T Q = rw r (repeats g lo (omega arith) (omega arith) refl T R (place_filled ready.len)) in
        let x₁ : Tabled (begun lo T n (d + 1 + 1)) (plus g) (lo ∷ []) (tokens + 1) S₁ c₁ =
        rw (s₁, k₁) (tabled_on lo T n (d + 1 + 1) (tokens + 1) n lo (plus g) [] T Q (ready_more lo T n (omega arith) ready) (omega arith) (omega arith) filled on (sym (append-nil (code_in T n))) (omega arith)) in
        let x₂ : Tabled (begun lo T n (d + 1)) (plus g) (codes (plus g)) (tokens + 1) S₂ c₂ =
        rw (s₂, k₂) (tabled_put lo T n (d + 1) (tokens + 1) c₁ PLUS_CODE (plus g) (lo ∷ []) S₁ (ready_more lo T n (omega arith) ready) (omega arith) (omega arith) x₁.filled x₁.code_holds x₁.room) in
        rw (s, k) (tabled_put lo T n d (tokens + 1) c₂ OPT_CODE (star g) (codes (plus g)) S₂ ready (omega arith) (omega arith) x₂.filled x₂.code_holds x₂.room))

-- A name.

module _ (long : ℕ) (s : List ℕ) (at e : ℕ) (full : Bool) (ps : List Place) (n : ℕ) (E : e ≡ name_end s at) where
  pub name_long : long < e - at → name_token long s at full ps n ≡ refused 3 at
  unfolding name_token
  name_long h = rw (lt-ltb _ _ (rw E at h), name_token)

  pub name_full : e - at ≤ long → full ≡ true → name_token long s at full ps n ≡ refused 6 at
  unfolding name_token
  name_full h f = rw (le-ltb _ _ (rw E at h), f, name_token)

  pub name_got : e - at ≤ long → full ≡ false → name_token long s at full ps n ≡ got (occurrence s (record { group = new_place ps; at = e; places = ps ++ record { at = at; size = e - at } ∷ []; tokens = n + 1; and = 0; repeated = 0 }))
  unfolding name_token
  name_got h f = rw (le-ltb _ _ (rw E at h), f, name_token, E)

-- A `#PCDATA` is read.

module _ (s : List ℕ) (at : ℕ) (full : Bool) (ps : List Place) (n : ℕ) where
  module _ (L : letter (byte_at s (at + 1)) ≡ true) (e : ℕ) (E : e ≡ name_end s (at + 1)) (w : Bool) (W : w ≡ is_word s (at + 1) e PCDATA) where
    pub data_word : w ≡ false → data_token s at full ps n ≡ refused 4 (wrong_data s at e)
    unfolding data_token
    data_word q =
        rw (L, ← E, ← W, q, data_token)
        (rw (← E) (sym (cut_or (is_cut s (at + 1) e PCDATA) (length s) at)))

    pub data_full : w ≡ true → full ≡ true → data_token s at full ps n ≡ refused 6 at
    unfolding data_token
    data_full q f = rw (L, ← E, ← W, q, f, data_token)

    pub data_got : w ≡ true → full ≡ false
        → data_token s at full ps n ≡ got (record { group = star (new_place ps); at = e; places = ps ++ record { at = at; size = 0 } ∷ []; tokens = n + 1; and = 0; repeated = 0 })
    unfolding data_token
    data_got q f = rw (L, ← E, ← W, q, f, data_token, E)

  module _ (L : letter (byte_at s (at + 1)) ≡ false) where
    pub data_none : data_token s at full ps n ≡ refused 4 (at + 1)
    unfolding data_token
    data_none = rw (L, data_token)
