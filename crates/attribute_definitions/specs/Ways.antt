-- An attribute definition by the tests that the code makes.
use Rattle.std.specs.Prelude.{ℕ, Result, Ok, Err, zero, suc, ◌-◌, ◌≤◌, ◌<◌, ◌≡◌, Bool, true, false, List, [], ◌∷◌, ◌++◌, length, eqb}
use Rattle.std.proofs.Math.Path.{refl}
use Rattle.std.proofs.Common.{sym, ◌∙◌, ap, append-nil, append_assoc, arith}
use borrow.Author.Tests.{eq-eqb, ne_eqb, lt-ltb, le-ltb, le-leb, lt-leb}
use Rattle.rules.specs.Bytes.{byte_at, letter, name_end, ATTCNT, GRPO}
use Rattle.rules.specs.Reading.{Reading, refused, got}
use Rattle.rules.specs.Attributes.{Part, DeclaredValue, cdata, number, name, tokens, Default, Attribute, attribute_of}
use Rattle.rules.specs.TypeFile.{gap, is_word, is_cut, CDATA, NUMBER, NAME, unfit, token_group, tokens_of, attribute_name, ValueEnd, value_word, declared_value, DefaultEnd, default_value, definition}
use Rattle.text.specs.declared.Fault.{Fault}
use Rattle.text.specs.Refusal.{refusal_of}
use Rattle.text.specs.Words.{test_in}
use Rattle.name_tokens.specs.Tokens.{parts_of, ReadAs}
use Rattle.attribute_values.specs.Parts.{number_of, as_cdata, as_number, as_name, as_tokens}
use Rattle.attribute_defaults.specs.DefaultOf.{default_is}
use Rattle.attribute_definitions.specs.declared.Declared.{Declared}
use Rattle.attribute_definitions.specs.Definition.{word_is, word_of, WordFits, tokens_in, ValueAs, MeetsValue, ValueFits, DefinedAs}

-- Names are read.

module _ (long : ℕ) (s : List ℕ) (xs : List Attribute) (from i e : ℕ) (ends : e ≡ name_end s i) where
  pub name_long : long < e - i → refused 3 i ≡ attribute_name long s xs from i
  unfolding attribute_name
  name_long l = rw (attribute_name, ← ends, lt-ltb _ _ l)

  module _ (short : e - i ≤ long) where
    pub name_joined : i ≤ from → refused 4 i ≡ attribute_name long s xs from i
    unfolding attribute_name
    name_joined h = rw (attribute_name, ← ends, le-ltb _ _ short, le-ltb from i h)

    module _ (parted : from < i) {k : ℕ} (found : k ≡ attribute_of s xs s i (e - i)) where
      pub name_twice : (k ≡ 0 → ⊥) → refused 7 i ≡ attribute_name long s xs from i
      unfolding attribute_name
      name_twice n = rw (attribute_name, ← ends, le-ltb _ _ short, lt-ltb from i parted, ← ends, ← found, le-leb 1 k (omega (arith, n)))

      module _ (fresh : k ≡ 0) where
        pub name_full : ATTCNT ≤ length xs → refused 20 i ≡ attribute_name long s xs from i
        unfolding attribute_name
        name_full f = rw (attribute_name, ← ends, le-ltb _ _ short, lt-ltb from i parted, ← ends, ← found, lt-leb 1 k (omega (arith, fresh)), le-leb ATTCNT (length xs) f)

        pub name_got : length xs < ATTCNT → got e ≡ attribute_name long s xs from i
        unfolding attribute_name
        name_got f = rw (attribute_name, ← ends, le-ltb _ _ short, lt-ltb from i parted, ← ends, ← found, lt-leb 1 k (omega (arith, fresh)), lt-leb ATTCNT (length xs) f, ends)

-- Words are read.

module _ (long : ℕ) (s : List ℕ) (i e : ℕ) (ends : e ≡ name_end s i) where
  pub word_long : long < e - i → refused 3 i ≡ value_word long s i
  unfolding value_word
  word_long l = rw (value_word, ← ends, lt-ltb _ _ l)

  module _ (short : e - i ≤ long) {a : Bool} (is_cdata : a ≡ is_word s i e CDATA) where
    pub word_cdata : a ≡ true → got (record { value = word_is 0; at = e }) ≡ value_word long s i
    unfolding value_word
    word_cdata h = rw (value_word, ← ends, le-ltb _ _ short, ← ends, ← is_cdata, h, ends)

    module _ (na : a ≡ false) {b : Bool} (is_number : b ≡ is_word s i e NUMBER) where
      pub word_number : b ≡ true → got (record { value = word_is 1; at = e }) ≡ value_word long s i
      unfolding value_word
      word_number h = rw (value_word, ← ends, le-ltb _ _ short, ← ends, ← is_cdata, na, ← ends, ← is_number, h, ends)

      module _ (nb : b ≡ false) {d : Bool} (is_name : d ≡ is_word s i e NAME) where
        pub word_name : d ≡ true → got (record { value = word_is 2; at = e }) ≡ value_word long s i
        unfolding value_word
        word_name h = rw (value_word, ← ends, le-ltb _ _ short, ← ends, ← is_cdata, na, ← ends, ← is_number, nb, ← ends, ← is_name, h, ends)

        module _ (nd : d ≡ false) {p : Bool} (cut_cdata : p ≡ is_cut s i e CDATA) where
          pub word_cut : p ≡ true → refused 4 (length s) ≡ value_word long s i
          unfolding value_word
          word_cut h = rw (value_word, ← ends, le-ltb _ _ short, ← ends, ← is_cdata, na, ← ends, ← is_number, nb, ← ends, ← is_name, nd, ← ends, ← cut_cdata, h)

          module _ (np : p ≡ false) {q : Bool} (cut_number : q ≡ is_cut s i e NUMBER) where
            pub word_cut_2 : q ≡ true → refused 4 (length s) ≡ value_word long s i
            unfolding value_word
            word_cut_2 h = rw (value_word, ← ends, le-ltb _ _ short, ← ends, ← is_cdata, na, ← ends, ← is_number, nb, ← ends, ← is_name, nd, ← ends, ← cut_cdata, np, ← cut_number, h)

            module _ (nq : q ≡ false) {r : Bool} (cut_name : r ≡ is_cut s i e NAME) where
              pub word_cut_3 : r ≡ true → refused 4 (length s) ≡ value_word long s i
              unfolding value_word
              word_cut_3 h = rw (value_word, ← ends, le-ltb _ _ short, ← ends, ← is_cdata, na, ← ends, ← is_number, nb, ← ends, ← is_name, nd, ← ends, ← cut_cdata, np, ← cut_number, nq, ← cut_name, h)

              pub word_wrong : r ≡ false → refused 4 i ≡ value_word long s i
              unfolding value_word
              word_wrong h = rw (value_word, ← ends, le-ltb _ _ short, ← ends, ← is_cdata, na, ← ends, ← is_number, nb, ← ends, ← is_name, nd, ← ends, ← cut_cdata, np, ← cut_number, nq, ← cut_name, h)

-- Declared values are read.

-- A word is a declared value without tokens.
pub word_value : (long : ℕ) (s seen : List ℕ) (x k m e : ℕ) {y : Reading ValueEnd} → x ≤ 2 → k ≡ m → y ≡ got (record { value = word_is x; at = e }) → ValueAs long s seen x k e (parts_of seen m) y
word_value long s seen zero k m e h q r = record { value = cdata; read = r; declared = as_cdata; parts = ap (parts_of seen) q ∙ sym (append-nil (parts_of seen m)) }
word_value long s seen (suc zero) k m e h q r = record { value = number; read = r; declared = as_number; parts = ap (parts_of seen) q ∙ sym (append-nil (parts_of seen m)) }
word_value long s seen (suc (suc zero)) k m e h q r = record { value = name; read = r; declared = as_name; parts = ap (parts_of seen) q ∙ sym (append-nil (parts_of seen m)) }
word_value long s seen (suc (suc (suc x))) k m e h q r = absurd (omega (arith, h))

module _ (long : ℕ) (s : List ℕ) (ts : List Part) (i : ℕ) where
  module _ (h : byte_at s i ≡ GRPO) where
    pub value_refused : {f : Fault} → token_group long s ts i ≡ refusal_of f → declared_value long s ts i ≡ refusal_of f
    unfolding declared_value
    value_refused g = rw (declared_value, h, g)

    pub value_group : (seen : List ℕ) (n m e : ℕ) → 3 ≤ i → ReadAs seen n m e ts (token_group long s ts i) → ValueAs long s seen i m e ts (declared_value long s ts i)
    unfolding declared_value
    value_group seen n m e l g =
        record {
          value = tokens i g.end.tokens;
          read = rw (declared_value, h, g.read, g.ends);
          declared = as_tokens i g.end.tokens l (record { seen = ts; end = g.end; read = g.read; tokens = refl });
          parts = g.parts;
        }

  module _ (n : byte_at s i ≡ GRPO → ⊥) where
    pub value_word_lem : letter (byte_at s i) ≡ true → declared_value long s ts i ≡ value_word long s i
    unfolding declared_value
    value_word_lem l = rw (declared_value, ne_eqb _ _ n, l)

    pub value_none : letter (byte_at s i) ≡ false → declared_value long s ts i ≡ unfit s i
    unfolding declared_value
    value_none l = rw (declared_value, ne_eqb _ _ n, l)

-- Definitions are read.

-- The tokens of a list with a further attribute.
pub tokens_more : (xs : List Attribute) (a : Attribute) → tokens_of (xs ++ a ∷ []) ≡ tokens_of xs ++ tokens_in a.value
unfolding tokens_of
tokens_more [] a = by_value a.value
  where
    by_value : (v : DeclaredValue) → elim v [ cdata ↦ [] | number ↦ [] | name ↦ [] | tokens i ps ↦ ps ++ [] ] ≡ tokens_in v
    by_value cdata = refl
    by_value number = refl
    by_value name = refl
    by_value (tokens i ps) = append-nil ps
tokens_more (x ∷ xs) a = by_value x.value (tokens_of (xs ++ a ∷ [])) (tokens_of xs) (tokens_more xs a)
  where
    by_value : (v : DeclaredValue) (l m : List Part) → l ≡ m ++ tokens_in a.value
        → elim v [ cdata ↦ l | number ↦ l | name ↦ l | tokens i ps ↦ ps ++ l ] ≡ elim v [ cdata ↦ m | number ↦ m | name ↦ m | tokens i ps ↦ ps ++ m ] ++ tokens_in a.value
    by_value cdata l m e = e
    by_value number l m e = e
    by_value name l m e = e
    by_value (tokens i ps) l m e = ap (λ r. ps ++ r) e ∙ sym (append_assoc ps m (tokens_in a.value))

-- Each way that reading of a definition goes.
module _ (long : ℕ) (s : List ℕ) (xs : List Attribute) (from i : ℕ) where
  pub definition_name : {f : Fault} → attribute_name long s xs from i ≡ refusal_of f → definition long s xs from i ≡ refusal_of f
  unfolding definition
  definition_name q = rw (q, definition)

  module _ {e : ℕ} (a : attribute_name long s xs from i ≡ got e) where
    pub definition_gap : {f : Fault} → gap s e ≡ refusal_of f → definition long s xs from i ≡ refusal_of f
    unfolding definition
    definition_gap q = rw (a, definition, q)

    module _ {j : ℕ} (g : gap s e ≡ got j) where
      pub definition_value : {f : Fault} → declared_value long s (tokens_of xs) j ≡ refusal_of f → definition long s xs from i ≡ refusal_of f
      unfolding definition
      definition_value q = rw (a, definition, g, q)

      module _ {v : ValueEnd} (w : declared_value long s (tokens_of xs) j ≡ got v) where
        pub definition_between : {f : Fault} → gap s v.at ≡ refusal_of f → definition long s xs from i ≡ refusal_of f
        unfolding definition
        definition_between q = rw (a, definition, g, w, q)

        module _ {k : ℕ} (h : gap s v.at ≡ got k) where
          pub definition_default : {f : Fault} → default_value long s v.value v.at k ≡ refusal_of f → definition long s xs from i ≡ refusal_of f
          unfolding definition
          definition_default q = rw (a, definition, g, w, h, q)

          pub definition_got : {d : DefaultEnd} → default_value long s v.value v.at k ≡ got d
              → definition long s xs from i ≡ got (record { attribute = record { at = i; size = e - i; value = v.value; default = d.default }; at = d.at })
          unfolding definition
          definition_got q = rw (a, definition, g, w, h, q)

pub parenthesis_in : (s : List ℕ) (i : ℕ) → byte_at s i ≡ GRPO → i < length s
parenthesis_in s i h = test_in (λ b. eqb b GRPO) refl s i (eq-eqb _ _ h)

-- A word that is read as declared value, and one that is refused.
pub word_meets : (long : ℕ) (s seen : List ℕ) (m i : ℕ) (r : Result Declared Fault) {x : Reading ValueEnd} → x ≡ value_word long s i → word_of r ≡ value_word long s i → WordFits (length s) i m r → MeetsValue long s seen (parts_of seen m) r x
word_meets long s seen m i (Ok v) q h w = word_value long s seen (number_of v.value) v.tokens m v.at w.0 w.1 (q ∙ sym h)
word_meets long s seen m i (Err f) q h w = q ∙ sym h

pub word_within : {end : ℕ} (i m : ℕ) (r : Result Declared Fault) → 2 ≤ end → WordFits end i m r → ValueFits end i m r
word_within i m (Ok v) l w = omega (arith, w, l)
word_within i m (Err f) l w = tt

-- A declared value by its number.
pub value_numbered : {long : ℕ} {s seen : List ℕ} {x w k e : ℕ} {ts : List Part} {y : Reading ValueEnd} → w ≡ x → ValueAs long s seen x k e ts y → ValueAs long s seen w k e ts y
value_numbered q v = record { value = v.value; read = v.read; declared = rw q v.declared; parts = v.parts }

-- A definition that was read, as a row.
module _ (long : ℕ) (s : List ℕ) (xs : List Attribute) (from i : ℕ) where
  pub definition_row : (seen : List ℕ) {e j x k f l d n z : ℕ} {b : Default} {ts : List Part} → i ≤ e → e ≤ length s → ts ≡ tokens_of xs → attribute_name long s xs from i ≡ got e → gap s e ≡ got j
      → (v : ValueAs long s seen x k f ts (declared_value long s ts j)) → gap s f ≡ got l → default_value long s v.value f l ≡ got (record { default = b; at = z }) → default_is d n ≡ b
      → DefinedAs long s seen (record { name = i; size = e - i; value = x; default = d; width = n }) k z xs (definition long s xs from i)
  definition_row seen {e} {j} {x} {k} {f} {l} {d} {n} {z} {b} {ts} lo hi p a g v h q r =
      let y : Attribute = record { at = i; size = e - i; value = v.value; default = b } in
      let w : declared_value long s (tokens_of xs) j ≡ got (record { value = v.value; at = f }) = ap (λ us. declared_value long s us j) (sym p) ∙ v.read in
      record {
        attribute = y;
        read = definition_got long s xs from i a g w h q;
        row = record { name = refl; size = refl; inside = omega (arith, lo, hi); value = v.declared; default = r };
        parts = v.parts ∙ ap (λ us. us ++ tokens_in v.value) p ∙ sym (tokens_more xs y);
      }
