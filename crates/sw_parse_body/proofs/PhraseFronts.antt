-- What reading a phrase says of the tokens, and that tokens have one front or one fault, whatever
-- indices names have.
use Rattle.std.proofs.Common.{◌≡◌, ◌⊎◌, inl, inr, ℕ, ◌+◌, ◌-◌, ◌≤◌, true, cond, not, List}
use Rattle.std.proofs.Common.{[], length, drop, take, refl, sym, ◌∙◌, ap, subst, arith}
use Rattle.std.proofs.lemmas.List.{length-drop, take-append-drop}
use Rattle.std.specs.Prelude.{Ok, Err}
use Rattle.sw_token.specs.Spelling.{Spelled, IsSpelling}
use Rattle.sw_grammar_forms.specs.Fronts.{ends_before, front}
use Rattle.sw_grammar_forms.specs.Reader.{Answer, Fault, Reader, refused, and_then, check}
use Rattle.sw_grammar_forms.specs.Reader.Fault.{unexpected, too_deep}
use Rattle.sw_grammar_forms.specs.Relations.{head}
use Rattle.sw_grammar_forms.proofs.Alike.{Alike, SameAnswer, Any, alike_front}
use Rattle.sw_grammar_forms.proofs.FrontLaws as laws
use Rattle.sw_grammar_forms.proofs.LoopLaws.{no_token}
use Rattle.sw_grammar_forms.proofs.ReaderLaws.{left_of, ok_parts}
use Rattle.sw_grammar_forms.proofs.Rising.{IsSpelling-rest}
use Rattle.sw_grammar_forms.proofs.WholeLaws as wholes
use Rattle.sw_grammar.specs.Around.{nowhere, outermost, returning}
use Rattle.sw_grammar.specs.Nests.{El, shape_of}
use Rattle.sw_grammar.specs.Grammar.{body, good}
use Rattle.sw_grammar.proofs.BodiesAlike.{blocks_alike, exprs_alike, types_alike}
use Rattle.sw_parse_decl.specs.Programs.{most_nests}
use Rattle.sw_parse_decl.specs.declared.fault.ParseFault.{ParseFault}
use Rattle.sw_parse_decl.specs.declared.fault.ParseFault.TheVariants as faults
use Rattle.sw_parse_body.specs.Phrases.{Phrase, a_block, an_expr, a_type, TreeOf, shape, form}
use Rattle.sw_parse_body.specs.Phrases.{SpellsAtAll, OpensTooMany, IsFront}
use Rattle.sw_parse_body.specs.Phrases.{IsRefusedAt, IsDeepAt, IsFrontFault, read_phrase}

-- Where no token goes on with a value, there is nothing to ask of the token after it.
pub front_of_any : {A : Type 0} (p : Reader A) (ts : List Spelled) → front [] p ts ≡ p ts
front_of_any {A} p ts = by_answer (p ts)
  where
    by_answer : (r : Answer A)
        → and_then r (λ x. and_then (check (ends_before []) x.1) (λ y. Ok (x.0, y.1))) ≡ r
    by_answer (Ok x) =
        ap (λ b. and_then (cond (not b) (Ok (tt {0}, x.1)) (refused x.1)) (λ y. Ok (x.0, y.1)))
        (no_token (head x.1))
    by_answer (Err fault) = refl

ok : (phrase : Phrase) → (shape phrase).ok ≡ true
ok (a_block wanted) = refl
ok an_expr = refl
ok a_type = refl

phrases_alike : (phrase : Phrase) (f g : List ℕ → ℕ) (depth : ℕ)
    → Alike Any (read_phrase phrase f depth) (read_phrase phrase g depth)
phrases_alike (a_block wanted) f g depth =
    alike_front Any _ _ _ (blocks_alike f g (returning (outermost f) wanted).here depth)
phrases_alike an_expr f g depth =
    alike_front Any _ _ _ (exprs_alike f g nowhere depth true)
phrases_alike a_type f g depth =
    alike_front Any _ _ _ (types_alike f g nowhere depth)

module _ (phrase : Phrase) (depth : ℕ) (ts : List Spelled) where
  -- what is read with some indices of names
  abbrev answer : (List ℕ → ℕ) → Answer (TreeOf phrase)
  answer id_of = read_phrase phrase id_of depth ts

  same_stop : (f g : List ℕ → ℕ) (fault : Fault) → answer f ≡ Err fault → answer g ≡ Err fault
  same_stop f g fault e =
      by_answer (answer g)
      (subst (λ r. SameAnswer Any r (answer g)) e (phrases_alike phrase f g depth ts))
    where
      by_answer : (r : Answer (TreeOf phrase)) → SameAnswer Any (Err fault) r → r ≡ Err fault
      by_answer (Ok x) is = absurd is
      by_answer (Err other) is = ap Err (sym is)

  same_rest : (f g : List ℕ → ℕ) (a : TreeOf phrase) (rest : List Spelled)
      → answer f ≡ Ok (a, rest) → (b : TreeOf phrase) × (answer g ≡ Ok (b, rest))
  same_rest f g a rest e =
      by_answer (answer g)
      (subst (λ r. SameAnswer Any r (answer g)) e (phrases_alike phrase f g depth ts))
    where
      by_answer : (r : Answer (TreeOf phrase)) → SameAnswer Any (Ok (a, rest)) r
          → (b : TreeOf phrase) × (r ≡ Ok (b, rest))
      by_answer (Ok x) is = (x.0, ap (λ us. Ok (x.0, us)) (sym is.1))
      by_answer (Err other) is = absurd is

module _ (phrase : Phrase) (depth : ℕ) (tokens : List Spelled) (from : ℕ) where
  abbrev left : List Spelled
  left = drop from tokens

  abbrev reading : (List ℕ → ℕ) → Answer (TreeOf phrase)
  reading id_of = read_phrase phrase id_of (most_nests - depth) left

  left_is : IsSpelling tokens → IsSpelling left
  left_is is = IsSpelling-rest (take from tokens) (drop from tokens)
      (subst IsSpelling (sym (take-append-drop from tokens)) is)

  -- What is read is a front.
  pub read_front : (id_of : List ℕ → ℕ) → IsSpelling tokens → from ≤ length tokens
      → (tree : TreeOf phrase) (rest : List Spelled) → reading id_of ≡ Ok (tree, rest)
      → IsFront phrase id_of depth tokens from (tree, length tokens - length rest)
  read_front id_of is within tree rest e =
      let given =
      laws.read_is_front El shape_of (body id_of) good (form phrase id_of) (ok phrase)
      (most_nests - depth) left (left_is is) tree rest e in
      let again =
      laws.front_is_read El shape_of (body id_of) good (form phrase id_of) (ok phrase)
      (most_nests - depth) left tree (length left - length rest) given in
      let same : rest ≡ drop (length left - length rest) left
      = (ok_parts (sym e ∙ again)).1 in
      record {
        count = length left - length rest;
        to = omega (
          arith,
          ap length same,
          length-drop (length left - length rest) left,
          length-drop from tokens,
        );
        spelled = given;
      }

  pub rest_within : (id_of : List ℕ → ℕ) → IsSpelling tokens → (tree : TreeOf phrase)
      (rest : List Spelled) → reading id_of ≡ Ok (tree, rest) → length rest ≤ length tokens
  rest_within id_of is tree rest e =
      let given =
      laws.read_is_front El shape_of (body id_of) good (form phrase id_of) (ok phrase)
      (most_nests - depth) left (left_is is) tree rest e in
      let again =
      laws.front_is_read El shape_of (body id_of) good (form phrase id_of) (ok phrase)
      (most_nests - depth) left tree (length left - length rest) given in
      omega (
        arith,
        ap length (ok_parts (sym e ∙ again)).1,
        length-drop (length left - length rest) left,
        length-drop from tokens,
      )

  -- A stop is a fault, whatever indices names have.

  pub stop_within : (id_of : List ℕ → ℕ) (fault : Fault) → reading id_of ≡ Err fault
      → left_of fault ≤ length tokens
  stop_within id_of fault e =
      omega (
        arith,
        laws.fault_within El shape_of (body id_of) good (form phrase id_of) (ok phrase)
            (most_nests - depth) left fault e,
        length-drop from tokens,
      )

  pub stop_refuses : (id_of : List ℕ → ℕ) → IsSpelling tokens → from ≤ length tokens → (count : ℕ)
      → reading id_of ≡ Err (unexpected count) → (other : List ℕ → ℕ)
      → IsRefusedAt phrase other depth tokens from (length tokens - count)
  stop_refuses id_of is within count e other =
      let same = same_stop phrase (most_nests - depth) left id_of other (unexpected count) e in
      record {
        count = length left - count;
        at = omega (
          arith,
          laws.fault_within El shape_of (body other) good (form phrase other) (ok phrase)
              (most_nests - depth) left (unexpected count) same,
          length-drop from tokens,
        );
        refused = laws.fault_refuses_front El shape_of (body other) good (form phrase other)
            (ok phrase) (most_nests - depth) left (left_is is) count same;
      }

  pub stop_is_deep : (id_of : List ℕ → ℕ) → IsSpelling tokens → from ≤ length tokens → (count : ℕ)
      → reading id_of ≡ Err (too_deep count) → (other : List ℕ → ℕ)
      → IsDeepAt phrase other depth tokens from (length tokens - count)
  stop_is_deep id_of is within count e other =
      let same = same_stop phrase (most_nests - depth) left id_of other (too_deep count) e in
      record {
        count = length left - count;
        at = omega (
          arith,
          laws.fault_within El shape_of (body other) good (form phrase other) (ok phrase)
              (most_nests - depth) left (too_deep count) same,
          length-drop from tokens,
        );
        deep = laws.fault_is_deep El shape_of (body other) good (form phrase other)
            (ok phrase) (most_nests - depth) left (left_is is) count same;
      }

  -- There is a front or a fault.
  pub decided : (id_of : List ℕ → ℕ) → IsSpelling tokens → from ≤ length tokens
      → ((read : TreeOf phrase × ℕ) × IsFront phrase id_of depth tokens from read)
      ⊎ ((fault : ParseFault) × ((other : List ℕ → ℕ)
      → IsFrontFault phrase other depth tokens from fault))
  decided id_of is within = by_answer (reading id_of) refl
    where
      by_answer : (r : Answer (TreeOf phrase)) → reading id_of ≡ r
          → ((read : TreeOf phrase × ℕ) × IsFront phrase id_of depth tokens from read)
          ⊎ ((fault : ParseFault) × ((other : List ℕ → ℕ)
          → IsFrontFault phrase other depth tokens from fault))
      by_answer (Ok x) e =
          inl ((x.0, length tokens - length x.1), read_front id_of is within x.0 x.1 e)
      by_answer (Err (unexpected count)) e =
          inr (faults.Unexpected (length tokens - count), stop_refuses id_of is within count e)
      by_answer (Err (too_deep count)) e =
          inr (faults.TooDeep (length tokens - count), stop_is_deep id_of is within count e)

  -- There is one front.
  pub one_front : (id_of : List ℕ → ℕ) (a b : TreeOf phrase × ℕ)
      → IsFront phrase id_of depth tokens from a → IsFront phrase id_of depth tokens from b → a ≡ b
  one_front id_of a b h k =
      let one =
      laws.front_is_read El shape_of (body id_of) good (form phrase id_of) (ok phrase)
      (most_nests - depth) left a.0 h.count h.spelled in
      let two =
      laws.front_is_read El shape_of (body id_of) good (form phrase id_of) (ok phrase)
      (most_nests - depth) left b.0 k.count k.spelled in
      let both = ok_parts (sym one ∙ two) in
      let h_within : h.count ≤ length left = h.spelled.within in
      let k_within : k.count ≤ length left = k.spelled.within in
      let places : a.1 ≡ b.1 = omega (
        arith,
        h.to,
        k.to,
        ap length both.1,
        length-drop h.count left,
        length-drop k.count left,
        h_within,
        k_within,
      ) in
      let trees : a ≡ (b.0, a.1) = ap (λ tree. (tree, a.1)) both.0 in
      let ends : (b.0, a.1) ≡ b = ap (λ n. (b.0, n)) places in
      trees ∙ ends

  -- Where it ends doesn't hang on the indices of names.
  pub same_place : (f g : List ℕ → ℕ) → IsSpelling tokens → from ≤ length tokens
      → (read : TreeOf phrase × ℕ) → IsFront phrase f depth tokens from read
      → (tree : TreeOf phrase) × IsFront phrase g depth tokens from (tree, read.1)
  same_place f g is within read h =
      let one = laws.front_is_read El shape_of (body f) good (form phrase f) (ok phrase)
      (most_nests - depth) left read.0 h.count h.spelled in
      let two = same_rest phrase (most_nests - depth) left f g read.0 (drop h.count left) one in
      let given = read_front g is within two.0 (drop h.count left) two.1 in
      let h_within : h.count ≤ length left = h.spelled.within in
      let same : length tokens - length (drop h.count left) ≡ read.1 = omega (
        arith,
        h.to,
        length-drop h.count left,
        length-drop from tokens,
        h_within,
      ) in (
        two.0,
        subst (λ n. IsFront phrase g depth tokens from (two.0, n)) same given,
      )

  pub never_both : (id_of : List ℕ → ℕ) (read : TreeOf phrase × ℕ) (fault : ParseFault)
      → IsFront phrase id_of depth tokens from read
      → ¬ IsFrontFault phrase id_of depth tokens from fault
  never_both id_of read (faults.Unexpected token) h k =
      laws.never_refused El shape_of (body id_of) good (form phrase id_of) (ok phrase)
      (most_nests - depth) left k.count (read.0, h.count, h.spelled) k.refused
  never_both id_of read (faults.TooDeep token) h k =
      laws.never_too_deep El shape_of (body id_of) good (form phrase id_of) (ok phrase)
      (most_nests - depth) left k.count (read.0, h.count, h.spelled) k.deep
  never_both id_of read faults.Memory h k = k

  -- There is one fault.
  pub one_fault : (id_of : List ℕ → ℕ) (a b : ParseFault)
      → IsFrontFault phrase id_of depth tokens from a
      → IsFrontFault phrase id_of depth tokens from b → a ≡ b
  one_fault id_of (faults.Unexpected m) (faults.Unexpected n) h k =
      ap faults.Unexpected (h.at ∙ (ap (λ count. from + count)
      (wholes.one_unexpected (SpellsAtAll phrase id_of) left h.count k.count h.refused.unexpected
      k.refused.unexpected) ∙ sym k.at))
  one_fault id_of (faults.Unexpected m) (faults.TooDeep n) h k =
      absurd (wholes.unexpected_or_deep (OpensTooMany phrase id_of depth)
      (SpellsAtAll phrase id_of) left h.count k.count h.refused.unexpected h.refused.shallow k.deep)
  one_fault id_of (faults.TooDeep m) (faults.Unexpected n) h k =
      absurd (wholes.unexpected_or_deep (OpensTooMany phrase id_of depth)
      (SpellsAtAll phrase id_of) left k.count h.count k.refused.unexpected k.refused.shallow h.deep)
  one_fault id_of (faults.TooDeep m) (faults.TooDeep n) h k =
      ap faults.TooDeep (h.at ∙ (ap (λ count. from + count)
      (wholes.one_too_deep (OpensTooMany phrase id_of depth) (SpellsAtAll phrase id_of) left h.count
      k.count h.deep k.deep) ∙ sym k.at))
  one_fault id_of faults.Memory b h k = absurd h
  one_fault id_of a faults.Memory h k = absurd k

  -- Nor does it hang on the indices of names.
  pub same_fault : (f g : List ℕ → ℕ) (fault : ParseFault) → IsSpelling tokens
      → from ≤ length tokens → IsFrontFault phrase f depth tokens from fault
      → IsFrontFault phrase g depth tokens from fault
  same_fault f g fault is within h = elim (decided f is within) [
    | inl read ↦ absurd (never_both f read.0 fault read.1 h)
    | inr other ↦ subst (λ it. IsFrontFault phrase g depth tokens from it)
        (one_fault f other.0 fault (other.1 f) h) (other.1 g)
  ]
