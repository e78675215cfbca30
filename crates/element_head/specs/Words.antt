-- Laws of the rules' head of a declaration: each way that reading it goes.
use Rattle.std.specs.Prelude.{ℕ, ◌+◌, ◌-◌, ◌≤◌, ◌<◌, ◌≡◌, true, false, ◌&&◌, List, eqb, ltb}
use borrow.Author.Tests.{eq-eqb, lt-ltb, le-ltb}
use Rattle.rules.specs.Bytes.{byte_at, letter, name_end, MINUS}
use Rattle.rules.specs.Reading.{refused, got}
use Rattle.rules.specs.TypeFile.{Word, gap, is_word, O, element_name, omission, words, head}
use Rattle.rules.specs.TypeFile as rules
use Rattle.text.specs.Refusal.{refusal_of}
use Rattle.text.specs.declared.Fault.{Fault}

-- A word of omitted tag minimization.
module _ (long : ℕ) (s : List ℕ) (from i : ℕ) where
  pub omission_dash : byte_at s i ≡ MINUS → from < i → omission long s from i ≡ got (record { value = 0; at = i + 1 })
  unfolding omission
  omission_dash b h = rw (eq-eqb _ _ b, lt-ltb _ _ h, omission)

  module _ (d : (eqb (byte_at s i) MINUS && ltb from i) ≡ false) where
    pub omission_other : letter (byte_at s i) ≡ false → omission long s from i ≡ refused 4 i
    unfolding omission
    omission_other l = rw (d, l, omission)

    pub omission_long : letter (byte_at s i) ≡ true → long < name_end s i - i → omission long s from i ≡ refused 3 i
    unfolding omission
    omission_long l h = rw (d, l, lt-ltb _ _ h, omission)

    module _ (l : letter (byte_at s i) ≡ true) (h : name_end s i - i ≤ long) where
      pub omission_o : (ltb from i && is_word s i (name_end s i) O) ≡ true → omission long s from i ≡ got (record { value = 1; at = name_end s i })
      unfolding omission
      omission_o w = rw (d, l, le-ltb _ _ h, w, omission)

      pub omission_word : (ltb from i && is_word s i (name_end s i) O) ≡ false → omission long s from i ≡ refused 4 i
      unfolding omission
      omission_word w = rw (d, l, le-ltb _ _ h, w, omission)

-- Each way that reading of the two words goes.
module _ (long : ℕ) (s : List ℕ) (i e : ℕ) where
  pub words_gap : {f : Fault} → gap s e ≡ refusal_of f → words long s i e ≡ refusal_of f
  unfolding words
  words_gap q = rw (q, words)

  module _ {j : ℕ} (g : gap s e ≡ got j) where
    pub words_start : {f : Fault} → omission long s e j ≡ refusal_of f → words long s i e ≡ refusal_of f
    unfolding words
    words_start q = rw (g, words, q)

    module _ {a : Word} (w : omission long s e j ≡ got a) where
      pub words_between : {f : Fault} → gap s a.at ≡ refusal_of f → words long s i e ≡ refusal_of f
      unfolding words
      words_between q = rw (g, words, w, q)

      module _ {k : ℕ} (l : gap s a.at ≡ got k) where
        pub words_end : {f : Fault} → omission long s a.at k ≡ refusal_of f → words long s i e ≡ refusal_of f
        unfolding words
        words_end q = rw (g, words, w, l, q)

        pub words_got : {b : Word} → omission long s a.at k ≡ got b → words long s i e ≡ got (record { name = i; size = e - i; start = a.value; end = b.value; at = b.at })
        unfolding words
        words_got q = rw (g, words, w, l, q)

-- The head.
module _ (long : ℕ) (s : List ℕ) (at : ℕ) (es : List rules.Element) where
  pub head_gap : {f : Fault} → gap s at ≡ refusal_of f → head long s at es ≡ refusal_of f
  unfolding head
  head_gap q = rw (q, head)

  module _ {i : ℕ} (g : gap s at ≡ got i) where
    pub head_name : {f : Fault} → element_name long s i es ≡ refusal_of f → head long s at es ≡ refusal_of f
    unfolding head
    head_name q = rw (g, head, q)

    pub head_words : {e : ℕ} → element_name long s i es ≡ got e → head long s at es ≡ words long s i e
    unfolding head
    head_words q = rw (g, head, q)
