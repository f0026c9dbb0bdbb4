-- The steps of a call that reads a front: what a reading gives, and that the second reading ends
-- where the first did.
use Rattle.std.proofs.Common.{◌≡◌, inl, inr, ℕ, ◌-◌, ◌≤◌, List, length, take, drop, refl}
use Rattle.std.proofs.Common.{sym, ◌∙◌, ap, subst, arith}
use Rattle.std.proofs.lemmas.List.{length-map, length-drop, take-map, drop-map, take_all}
use Rattle.std.specs.Prelude.{Result, Ok, Err, IfOk, IfErr}
use Rattle.sw_token.specs.declared.Token.{Token}
use Rattle.sw_token.specs.Spelling.{Spelled, IsSpelling, spelled, spelling_of}
use Rattle.sw_grammar_forms.specs.Outcome.{Gives}
use Rattle.sw_grammar_forms.specs.Reader.Fault.{unexpected, too_deep}
use Rattle.sw_grammar_forms.specs.declared.stop.Stop.{Stop}
use Rattle.sw_grammar_forms.specs.declared.stop.Stop.TheVariants as stops
use Rattle.sw_tree.specs.Names.{with_texts}
use Rattle.sw_grammar.specs.Around.{index_in}
use Rattle.sw_parse_decl.specs.Programs.{most_nests}
use Rattle.sw_parse_decl.specs.Texts.{ArePartlyInterned}
use Rattle.sw_parse_decl.specs.declared.fault.ParseFault.{ParseFault}
use Rattle.sw_parse_decl.specs.declared.fault.ParseFault.TheVariants as faults
use Rattle.sw_parse_body.specs.Phrases.{Phrase, TreeOf, IsFront, ExplainsFront, KeepsNames}
use Rattle.sw_parse_body.specs.Phrases.{texts_after, texts_between}
use Rattle.sw_parse_body.specs.Phrases.{read_phrase, fault_in, IsStopIn}
use Rattle.sw_parse_body.proofs.PhraseFronts.{read_front, rest_within, stop_within, stop_refuses}
use Rattle.sw_parse_body.proofs.PhraseFronts.{stop_is_deep, one_front, same_place, never_both}

-- One reading, of the tokens of a source from an index on.
module _ (phrase : Phrase) (depth : ℕ) (source : List ℕ) (tokens : List Token) (from : ℕ)
    (names : List (List ℕ)) (start left : List Spelled)
    (is : IsSpelling (spelling_of source tokens)) (within : from ≤ length tokens)
    (begins : start ≡ drop from (spelling_of source tokens)) where
  abbrev all : List Spelled
  all = spelling_of source tokens

  many : length all ≡ length tokens
  many = length-map tokens (spelled source)

  from_within : from ≤ length all
  from_within = omega (arith, many, within)

  pub gives_within : (tree : TreeOf phrase)
      → read_phrase phrase (index_in names) (most_nests - depth) start ≡ Ok (tree, left)
      → (count : ℕ) → count ≡ length left → count ≤ length tokens
  gives_within tree e count same =
      let read = ap (read_phrase phrase (index_in names) (most_nests - depth)) (sym begins) ∙ e in
      omega (arith, many, same, rest_within phrase depth all from (index_in names) is tree left read)

  pub gives_front : (tree : TreeOf phrase)
      → read_phrase phrase (index_in names) (most_nests - depth) start ≡ Ok (tree, left)
      → (count : ℕ) → count ≡ length left
      → IsFront phrase (index_in names) depth all from (tree, length tokens - count)
  gives_front tree e count same =
      let read = ap (read_phrase phrase (index_in names) (most_nests - depth)) (sym begins) ∙ e in
      let places : length all - length left ≡ length tokens - count = omega (arith, many, same) in
      subst (λ n. IsFront phrase (index_in names) depth all from (tree, n)) places
      (read_front phrase depth all from (index_in names) is from_within tree left read)

  pub stop_is_in : (stop : Stop)
      → Gives (read_phrase phrase (index_in names) (most_nests - depth) start) (Err stop) left
      → IsStopIn (length tokens) stop
  stop_is_in (stops.Unexpected count) e =
      let read = ap (read_phrase phrase (index_in names) (most_nests - depth)) (sym begins) ∙ e in
      omega (arith, many, stop_within phrase depth all from (index_in names) (unexpected count) read)
  stop_is_in (stops.TooDeep count) e =
      let read = ap (read_phrase phrase (index_in names) (most_nests - depth)) (sym begins) ∙ e in
      omega (arith, many, stop_within phrase depth all from (index_in names) (too_deep count) read)
  stop_is_in stops.Memory e = tt

  stop_explained : (stop : Stop)
      → Gives (read_phrase phrase (index_in names) (most_nests - depth) start) (Err stop) left
      → ExplainsFront phrase depth all from (fault_in (length all) stop)
  stop_explained (stops.Unexpected count) e =
      let read = ap (read_phrase phrase (index_in names) (most_nests - depth)) (sym begins) ∙ e in
      stop_refuses phrase depth all from (index_in names) is from_within count read
  stop_explained (stops.TooDeep count) e =
      let read = ap (read_phrase phrase (index_in names) (most_nests - depth)) (sym begins) ∙ e in
      stop_is_deep phrase depth all from (index_in names) is from_within count read
  stop_explained stops.Memory e = tt

  pub stop_explains : (stop : Stop) (fault : ParseFault) → fault ≡ fault_in (length tokens) stop
      → Gives (read_phrase phrase (index_in names) (most_nests - depth) start) (Err stop) left
      → ExplainsFront phrase depth all from fault
  stop_explains stop fault same e =
      subst (λ it. ExplainsFront phrase depth all from it)
      (ap (λ count. fault_in count stop) many ∙ sym same) (stop_explained stop e)

-- Two readings, where the first found a front up to the index `to`.
module _ (phrase : Phrase) (depth : ℕ) (source : List ℕ) (tokens : List Token) (from to : ℕ)
    (is : IsSpelling (spelling_of source tokens)) (within : from ≤ length tokens)
    (old : List (List ℕ)) (tree : TreeOf phrase)
    (first : IsFront phrase (index_in old) depth (spelling_of source tokens) from (tree, to))
    (result : Result (TreeOf phrase × ℕ) ParseFault) where
  from_in : from ≤ length (spelling_of source tokens)
  from_in = omega (arith, length-map tokens (spelled source), within)

  pub same_texts : (new : List (List ℕ))
      → new ≡ texts_after old (spelling_of source tokens) from to
      → IfOk result (λ read. IsFront phrase (index_in new) depth (spelling_of source tokens) from read)
      → IfOk result (λ read. new ≡ texts_after old (spelling_of source tokens) from read.1)
  same_texts new texts second = by_result result second
    where
      by_result : (r : Result (TreeOf phrase × ℕ) ParseFault)
          → IfOk r (λ read. IsFront phrase (index_in new) depth (spelling_of source tokens) from read)
          → IfOk r (λ read. new ≡ texts_after old (spelling_of source tokens) from read.1)
      by_result (Ok read) front =
          let again = same_place phrase depth (spelling_of source tokens) from (index_in old)
          (index_in new) is from_in (tree, to) first in
          let same = one_front phrase depth (spelling_of source tokens) from (index_in new)
          (again.0, to) read again.1 front in
          texts ∙ ap (λ it. texts_after old (spelling_of source tokens) from it.1) same
      by_result (Err fault) front = tt

  -- Out of memory while the texts are interned, the first of them are.
  pub keeps_part : (new : List (List ℕ))
      → ArePartlyInterned old (texts_between (spelling_of source tokens) from to) new
      → KeepsNames phrase depth (spelling_of source tokens) from old new faults.Memory
  keeps_part new some = inr (record {
    read = (tree, to);
    front = first;
    count = some.0;
    texts = some.2;
  })

  -- The second reading stops only out of memory, and then all names are interned.
  pub keeps_all : (new : List (List ℕ))
      → new ≡ texts_after old (spelling_of source tokens) from to
      → IfErr result (λ fault. ExplainsFront phrase depth (spelling_of source tokens) from fault)
      → IfErr result (λ fault. KeepsNames phrase depth
      (spelling_of source tokens) from old new fault)
  keeps_all new texts second = by_result result second
    where
      by_result : (r : Result (TreeOf phrase × ℕ) ParseFault)
          → IfErr r (λ fault. ExplainsFront phrase depth (spelling_of source tokens) from fault)
          → IfErr r (λ fault. KeepsNames phrase depth
          (spelling_of source tokens) from old new fault)
      by_result (Ok read) explains = tt
      by_result (Err (faults.Unexpected token)) explains =
          absurd (never_both phrase depth (spelling_of source tokens) from (index_in old) (tree, to)
          (faults.Unexpected token) first (explains (index_in old)))
      by_result (Err (faults.TooDeep token)) explains =
          absurd (never_both phrase depth (spelling_of source tokens) from (index_in old) (tree, to)
          (faults.TooDeep token) first (explains (index_in old)))
      by_result (Err faults.Memory) explains = inr (record {
        read = (tree, to);
        front = first;
        count = length (texts_between (spelling_of source tokens) from to);
        texts = texts ∙ ap (with_texts old)
            (sym (take_all (length (texts_between (spelling_of source tokens) from to))
            (texts_between (spelling_of source tokens) from to) (omega arith)));
      })

-- The first reading interns no name.
pub keeps_names : (phrase : Phrase) (depth : ℕ) (tokens : List Spelled) (from : ℕ)
    (old : List (List ℕ)) (fault : ParseFault) → KeepsNames phrase depth tokens from old old fault
keeps_names phrase depth tokens from old (faults.Unexpected token) = refl
keeps_names phrase depth tokens from old (faults.TooDeep token) = refl
keeps_names phrase depth tokens from old faults.Memory = inl refl

-- The tokens of a part of a list are that part of its tokens.
pub between_spelled : (source : List ℕ) (tokens : List Token) (from count : ℕ)
    → spelling_of source (take count (drop from tokens))
    ≡ take count (drop from (spelling_of source tokens))
between_spelled source tokens from count =
    sym (ap (take count) (drop-map (spelled source) from tokens)
    ∙ take-map (spelled source) count (drop from tokens))

pub from_spelled : (source : List ℕ) (tokens : List Token) (from : ℕ)
    → spelling_of source (take (length tokens - from) (drop from tokens))
    ≡ drop from (spelling_of source tokens)
from_spelled source tokens from =
    between_spelled source tokens from (length tokens - from)
    ∙ take_all (length tokens - from) (drop from (spelling_of source tokens)) (omega (
      arith,
      length-drop from (spelling_of source tokens),
      length-map tokens (spelled source),
    ))
