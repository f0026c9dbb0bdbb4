-- Parts of commands are lawful and can end: those that read no file, those that fetch one, and one
-- part after another.
use Rattle.std.proofs.Common.{◌≡◌, ◌<◌, ◌≤◌, ◌⊎◌, inl, inr, ℕ, List, [], ◌∷◌, ◌++◌, length, Result}
use Rattle.std.proofs.Common.{Ok, Err, refl, sym, ap, ap₂, ◌∙◌, subst, arith, append_assoc}
use Rattle.std.proofs.lemmas.Bool.{cases_lt}
use Rattle.sw_check_parts.specs.declared.outcome.Outcome.{Outcome}
use Rattle.sw_check_parts.specs.Course.{Read, read, AreOf, Underway, Ended, Part, Alone, deciding}
use Rattle.sw_check_parts.specs.Course.{decided, Fetched, to_fetch, fetching, within, above}
use Rattle.sw_check_parts.specs.Course.{too_long_file, Then, in_first, refused, goes_on, ◌>>=◌}
use Rattle.sw_check_parts.specs.Lawful.{CanEnd, Completes, IsPrefixOf, IsLawful}
use Rattle.sw_check_parts.specs.Lawful.{HasOneResult, HasResult}
use Rattle.sw_check_parts.proofs.ReadLemmas.{AreOf-append, AreOf-prefix, AreOf-suffix}

module _ {A : Type 0} (Rule : Result A Outcome → Type 0) where
  pub can_end_alone : HasResult Rule → CanEnd (Alone Rule)
  can_end_alone (result, is) = record { begins = deciding; completes = completes } where
    completes : (files : List ℕ → List ℕ) (reads : List Read) → Alone Rule reads Underway
        → Completes (Alone Rule) files reads
    completes files _ deciding =
        record { others = []; of_files = tt; result = result; ended = decided result is }

  pub lawful_alone : HasOneResult Rule → IsLawful (Alone Rule)
  lawful_alone one = record { one_end = one_end; read_in_order = read_in_order } where
    one_end : (files : List ℕ → List ℕ) (reads others : List Read) (a b : Result A Outcome)
        → AreOf files reads → AreOf files others → Alone Rule reads (Ended a)
        → Alone Rule others (Ended b) → (reads ≡ others) × (a ≡ b)
    one_end files _ _ _ _ h k (decided a is_a) (decided b is_b) =
        (refl, one a b is_a is_b)

    read_in_order : (files : List ℕ → List ℕ) (reads others : List Read) (result : Result A Outcome)
        → AreOf files reads → AreOf files others → Alone Rule reads Underway
        → Alone Rule others (Ended result) → IsPrefixOf reads others
    read_in_order files _ _ _ h k deciding (decided result is) = record { rest = []; whole = refl }

-- a file that is fetched has the text under its name
same_text : (files : List ℕ → List ℕ) (name a b : List ℕ) → AreOf files (read name a ∷ [])
    → AreOf files (read name b ∷ []) → a ≡ b
same_text files name a b h k = h.0 ∙ sym k.0

module _ (name : List ℕ) (limit : ℕ) where
  pub can_end_fetched : CanEnd (Fetched name limit)
  can_end_fetched = record { begins = to_fetch; completes = completes } where
    by_length : (files : List ℕ → List ℕ) (text : List ℕ) → (limit < length text)
        ⊎ (length text ≤ limit) → (result : Result (List ℕ) Outcome)
        × Fetched name limit (read name text ∷ []) (Ended result)
    by_length files text (inl long) = (Err too_long_file, above text long)
    by_length files text (inr short) = (Ok text, within text short)

    completes : (files : List ℕ → List ℕ) (reads : List Read) → Fetched name limit reads Underway
        → Completes (Fetched name limit) files reads
    completes files _ to_fetch =
        let (result, ended) = by_length files (files name) (cases_lt limit (length (files name))) in
        record {
          others = read name (files name) ∷ [];
          of_files = (refl, tt);
          result =
              result;
          ended = ended;
        }
    completes files _ (fetching text) =
        let (result, ended) = by_length files text (cases_lt limit (length text)) in
        record { others = []; of_files = tt; result = result; ended = ended }

  pub lawful_fetched : IsLawful (Fetched name limit)
  lawful_fetched = record { one_end = one_end; read_in_order = read_in_order } where
    one_end : (files : List ℕ → List ℕ) (reads others : List Read) (a b : Result (List ℕ) Outcome)
        → AreOf files reads → AreOf files others → Fetched name limit reads (Ended a)
        → Fetched name limit others (Ended b) → (reads ≡ others) × (a ≡ b)
    one_end files _ _ _ _ h k (within a short) (within b _) =
        let same = same_text files name a b h k in
        (ap (λ text. read name text ∷ []) same, ap Ok same)
    one_end files _ _ _ _ h k (within a short) (above b long) =
        absurd (omega (arith, ap length (same_text files name a b h k), short, long))
    one_end files _ _ _ _ h k (above a long) (within b short) =
        absurd (omega (arith, ap length (same_text files name a b h k), short, long))
    one_end files _ _ _ _ h k (above a long) (above b _) =
        (ap (λ text. read name text ∷ []) (same_text files name a b h k), refl)

    read_in_order : (files : List ℕ → List ℕ) (reads others : List Read)
        (result : Result (List ℕ) Outcome) → AreOf files reads → AreOf files others
        → Fetched name limit reads Underway → Fetched name limit others (Ended result)
        → IsPrefixOf reads others
    read_in_order files _ others _ h k to_fetch ended = record { rest = others; whole = refl }
    read_in_order files _ _ _ h k (fetching a) (within b _) =
        record {
          rest = [];
          whole =
              ap (λ text. read name text ∷ []) (same_text files name b a k h);
        }
    read_in_order files _ _ _ h k (fetching a) (above b _) =
        record {
          rest = [];
          whole =
              ap (λ text. read name text ∷ []) (same_text files name b a k h);
        }

module _ {A B : Type 0} (first : Part A) (second : A → Part B) (one : CanEnd first)
    (next : (value : A) → CanEnd (second value)) where
  -- the first part gave the value
  second_completes : (files : List ℕ → List ℕ) (reads others : List Read) (value : A)
      → first reads (Ended (Ok value)) → second value others Underway
      → Completes (first >>= second) files (reads ++ others)
  second_completes files reads others value gave under =
      let end = (next value).completes files others under in
      record {
        others = end.others;
        of_files = end.of_files;
        result = end.result;
        ended = subst (λ reads. Then first second reads (Ended end.result))
            (sym (append_assoc reads others end.others))
            (goes_on reads (others ++ end.others) value (Ended end.result) gave end.ended);
      }

  first_completes : (files : List ℕ → List ℕ) (reads others : List Read) (result : Result A Outcome)
      → AreOf files others → first (reads ++ others) (Ended result)
      → Completes (first >>= second) files reads
  first_completes files reads others (Err outcome) of_files ended =
      record {
        others = others;
        of_files = of_files;
        result = Err outcome;
        ended =
            refused (reads ++ others) outcome ended;
      }
  first_completes files reads others (Ok value) of_files ended =
      let end = (next value).completes files [] (next value).begins in
      record {
        others = others ++ end.others;
        of_files = AreOf-append files others end.others of_files end.of_files;
        result = end.result;
        ended = subst (λ reads. Then first second reads (Ended end.result))
            (append_assoc reads others end.others)
            (goes_on (reads ++ others) end.others value (Ended end.result) ended end.ended);
      }

  completes_then : (files : List ℕ → List ℕ) (reads : List Read) → Then first second reads Underway
      → Completes (first >>= second) files reads
  completes_then files _ (in_first reads under) =
      let end = one.completes files reads under in
      first_completes files reads end.others end.result end.of_files end.ended
  completes_then files _ (goes_on reads others value _ gave under) =
      second_completes files reads others value gave under

  pub can_end_then : CanEnd (first >>= second)
  can_end_then = record { begins = in_first [] one.begins; completes = completes_then }

module _ {A B : Type 0} (first : Part A) (second : A → Part B) (one : IsLawful first)
    (next : (value : A) → IsLawful (second value)) where
  -- where the first part gave values, they are one, and the second went on from it
  same_value : (files : List ℕ → List ℕ) (reads others : List Read) (a b : A) → AreOf files reads
      → AreOf files others → first reads (Ended (Ok a)) → first others (Ended (Ok b))
      → (reads ≡ others) × (a ≡ b)
  same_value files reads others a b h k is_a is_b = let same =
      one.one_end files reads others (Ok a) (Ok b) h k is_a is_b in (same.0, cc (same.1))

  never_both : (files : List ℕ → List ℕ) (reads others : List Read) (value : A) (outcome : Outcome)
      → AreOf files reads → AreOf files others → first reads (Ended (Ok value))
      → first others (Ended (Err outcome)) → ⊥
  never_both files reads others value outcome h k gave refuses =
      cc (one.one_end files reads others (Ok value) (Err outcome) h k gave refuses).1

  one_end_then : (files : List ℕ → List ℕ) (reads others : List Read) (a b : Result B Outcome)
      → AreOf files reads → AreOf files others → Then first second reads (Ended a)
      → Then first second others (Ended b) → (reads ≡ others) × (a ≡ b)
  one_end_then files _ _ _ _ h k (refused reads a is_a) (refused others b is_b) =
      let same = one.one_end files reads others (Err a) (Err b) h k is_a is_b in
      let outcome : a ≡ b = cc (same.1) in
      (same.0, ap Err outcome)
  one_end_then files _ _ _ _ h k (refused reads a is_a) (goes_on others more value _ gave ended) =
      absurd (never_both files others reads value a (AreOf-prefix files others more k) h gave is_a)
  one_end_then files _ _ _ _ h k (goes_on reads more value _ gave ended) (refused others b is_b) =
      absurd (never_both files reads others value b (AreOf-prefix files reads more h) k gave is_b)
  one_end_then files _ _ a b h k (goes_on reads more value _ gave ended)
      (goes_on others more' value' _ gave' ended') =
      let same = same_value files reads others value value' (AreOf-prefix files reads more h)
      (AreOf-prefix files others more' k) gave gave' in
      let ends = (next value').one_end files more more' a b (AreOf-suffix files reads more h)
      (AreOf-suffix files others more' k)
      (subst (λ value. second value more (Ended a)) same.1 ended) ended' in
      (ap₂ (λ reads more. reads ++ more) same.0 ends.0, ends.1)

  longer : (reads others more : List Read) → IsPrefixOf reads others
      → IsPrefixOf reads (others ++ more)
  longer reads others more prefix =
      record {
        rest = prefix.rest ++ more;
        whole = ap (λ all. all ++ more) prefix.whole
            ∙ append_assoc reads prefix.rest more;
      }

  read_in_order_then : (files : List ℕ → List ℕ) (reads others : List Read)
      (result : Result B Outcome) → AreOf files reads → AreOf files others
      → Then first second reads Underway → Then first second others (Ended result)
      → IsPrefixOf reads others
  read_in_order_then files _ _ _ h k (in_first reads under) (refused others outcome ended) =
      one.read_in_order files reads others (Err outcome) h k under ended
  read_in_order_then files _ _ _ h k (in_first reads under)
      (goes_on others more value _ gave ended) =
      longer reads others more (one.read_in_order files reads others (Ok value) h
      (AreOf-prefix files others more k) under gave)
  read_in_order_then files _ _ _ h k (goes_on reads more value _ gave under)
      (refused others outcome ended) =
      absurd (never_both files reads others value outcome
      (AreOf-prefix files reads more h) k gave ended)
  read_in_order_then files _ _ result h k (goes_on reads more value _ gave under)
      (goes_on others more' value' _ gave' ended) =
      let same = same_value files reads others value value' (AreOf-prefix files reads more h)
      (AreOf-prefix files others more' k) gave gave' in
      let prefix = (next value').read_in_order files more more' result
      (AreOf-suffix files reads more h) (AreOf-suffix files others more' k)
      (subst (λ value. second value more Underway) same.1 under) ended in
      record {
        rest = prefix.rest;
        whole = ap₂ (λ reads more. reads ++ more) (sym same.0) prefix.whole
            ∙ sym (append_assoc reads more prefix.rest);
      }

  pub lawful_then : IsLawful (first >>= second)
  lawful_then = record { one_end = one_end_then; read_in_order = read_in_order_then }
