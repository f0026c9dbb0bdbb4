-- Programs and faults of tokens: what reading them gives, and that there is one answer.
use Rattle.std.proofs.Common.{◌≡◌, ℕ, ◌-◌, ◌≤◌, ◌⊎◌, inl, inr, List, [], ◌++◌, length, refl, sym}
use Rattle.std.proofs.Common.{◌∙◌, ap, arith, subst, length-append}
use Rattle.std.specs.Prelude.{Ok, Err}
use Rattle.sw_token.specs.Spelling.{Spelled, IsSpelling}
use Rattle.sw_grammar_forms.specs.Reader.{Answer, Fault}
use Rattle.sw_grammar_forms.specs.Reader.Fault.{unexpected, too_deep}
use Rattle.sw_grammar_forms.specs.Outcome.{Gives}
use Rattle.sw_grammar_forms.specs.declared.stop.Stop.{Stop}
use Rattle.sw_grammar_forms.proofs.ReaderLaws.{Failed, left_of, ok_parts}
use Rattle.sw_grammar_forms.proofs.FormLaws.{law}
use Rattle.sw_grammar_forms.proofs.GrammarLaws.{read_is_spelled, spelled_is_read, fault_is_unexpected}
use Rattle.sw_grammar_forms.proofs.GrammarLaws.{read_is_shallow, fault_is_too_deep}
use Rattle.sw_grammar_forms.proofs.DepthLaws.{NotDeep}
use Rattle.sw_grammar.proofs.ProgramLaws as laws
use Rattle.sw_grammar_forms.proofs.WholeLaws.{IsEnd, whole_fails}
use Rattle.sw_tree.specs.Contents.{AreKeyed, AreNamed}
use Rattle.sw_tree.specs.declared.decl.Decl.{Decl}
use Rattle.sw_grammar.specs.Around.{index_in, outermost}
use Rattle.sw_grammar.specs.Nests.{El, shape_of}
use Rattle.sw_grammar.specs.Grammar.{body, good}
use Rattle.sw_grammar.specs.Decls.{program}
use Rattle.sw_grammar.specs.Enums.{enums}
use Rattle.sw_grammar.specs.Program.{Spells, SpellsDecls, SpellsDeclsWithin}
use Rattle.sw_grammar.specs.Reading.{read}
use Rattle.sw_grammar_facts.proofs.DeclsFew.{spelled_are_few}
use Rattle.sw_grammar_facts.proofs.KeysDiffer.{spelled_are_keyed}
use Rattle.sw_grammar_facts.proofs.NamesKnown.{spelled_are_named}
use Rattle.sw_parse_parts.specs.Around.{Surroundings, known, nothing_around}
use Rattle.sw_parse_decl.specs.Programs.{most_nests, texts_of, IsProgramOf, whole_around}
use Rattle.sw_parse_decl.specs.Programs.{whole_program, IsSyntaxFault}
use Rattle.sw_parse_decl.specs.declared.fault.ParseFault.{ParseFault}
use Rattle.sw_parse_decl.specs.declared.fault.ParseFault.TheVariants as faults
use Rattle.sw_parse_decl.proofs.ProgramTexts.{value_known}

-- Reading the tokens from left to right stops with this fault.
abbrev pub Stops : List Spelled → Fault → Type 0
Stops tokens fault = whole_program (index_in (texts_of tokens)) tokens ≡ Err fault

failed : (tokens : List Spelled) (fault : Fault) → Stops tokens fault
    → Failed (SpellsDeclsWithin (index_in (texts_of tokens)) most_nests)
    (SpellsDecls (index_in (texts_of tokens))) IsEnd tokens fault
failed tokens fault stops =
    let id_of = index_in (texts_of tokens) in
    whole_fails (SpellsDeclsWithin id_of most_nests) (SpellsDecls id_of) _
    (read (outermost id_of) most_nests (program (outermost id_of)))
    (law El shape_of (body id_of) good most_nests (program (outermost id_of)) refl)
    tokens fault stops

-- A fault is at a token or the end.
pub fault_within : (tokens : List Spelled) (fault : Fault) → Stops tokens fault
    → left_of fault ≤ length tokens
fault_within tokens fault stops =
    let bad = failed tokens fault stops in
    omega (arith, ap length bad.split, length-append bad.before bad.bad, bad.count)

-- What is read, with the enums of the optionals, is the program of the tokens.
pub read_program : (tokens : List Spelled) → IsSpelling tokens → (written decls : List Decl)
    (rest : List Spelled)
    → whole_program (index_in (texts_of tokens)) tokens ≡ Ok (written, rest)
    → decls ≡ written ++ enums (index_in (texts_of tokens)) tokens → IsProgramOf decls tokens
read_program tokens is written decls rest e whole =
    let id_of = index_in (texts_of tokens) in
    record {
      spelling = is;
      form = record {
        written = written;
        spelled =
            read_is_spelled El shape_of (body id_of) good (program (outermost id_of)) refl
            most_nests tokens written rest e;
        whole = whole;
      };
    }

pub unexpected_at : (tokens : List Spelled) → IsSpelling tokens → (left : ℕ)
    → Stops tokens (unexpected left)
    → IsSyntaxFault tokens (faults.Unexpected (length tokens - left))
unexpected_at tokens is left stops =
    let id_of = index_in (texts_of tokens) in
    record {
      unexpected =
          fault_is_unexpected El shape_of (body id_of) good (program (outermost id_of))
          refl
          most_nests tokens is left stops;
      shallow =
          read_is_shallow El shape_of (body id_of) good (program (outermost id_of)) refl
          most_nests
          tokens (length tokens - left) (omega arith) (subst NotDeep (sym stops) tt);
    }

pub too_deep_at : (tokens : List Spelled) → IsSpelling tokens → (left : ℕ)
    → Stops tokens (too_deep left) → IsSyntaxFault tokens (faults.TooDeep (length tokens - left))
too_deep_at tokens is left stops =
    let id_of = index_in (texts_of tokens) in
    fault_is_too_deep El shape_of (body id_of) good (program (outermost id_of)) refl
    most_nests tokens is left
    stops

-- The tokens are a program or have a fault.
pub decided : (tokens : List Spelled) → IsSpelling tokens
    → ((decls : List Decl) × IsProgramOf decls tokens)
    ⊎ ((fault : ParseFault) × IsSyntaxFault tokens fault)
decided tokens is = by (whole_program (index_in (texts_of tokens)) tokens) refl
  where
    by : (answer : Answer (List Decl)) → whole_program (index_in (texts_of tokens)) tokens ≡ answer
        → ((decls : List Decl) × IsProgramOf decls tokens)
        ⊎ ((fault : ParseFault) × IsSyntaxFault tokens fault)
    by (Ok read) e =
        inl (
          read.0 ++ enums (index_in (texts_of tokens)) tokens,
          read_program tokens is read.0 _ read.1 e refl,
        )
    by (Err (unexpected left)) e =
        inr (faults.Unexpected (length tokens - left), unexpected_at tokens is left e)
    by (Err (too_deep left)) e =
        inr (faults.TooDeep (length tokens - left), too_deep_at tokens is left e)

reads : (tokens : List Spelled) (decls : List Decl) (given : IsProgramOf decls tokens)
    → whole_program (index_in (texts_of tokens)) tokens ≡ Ok (given.form.written, [])
reads tokens decls given =
    let id_of = index_in (texts_of tokens) in
    spelled_is_read El shape_of (body id_of) good (program (outermost id_of)) refl
    most_nests given.form.written tokens given.form.spelled

pub one_program : (tokens : List Spelled) (a b : List Decl) → IsProgramOf a tokens
    → IsProgramOf b tokens → a ≡ b
one_program tokens a b h k =
    h.form.whole
    ∙ (ap (λ written. written ++ enums (index_in (texts_of tokens)) tokens)
    (ok_parts {A = List Decl} (sym (reads tokens a h) ∙ reads tokens b k)).0
    ∙ sym k.form.whole)

-- What is spelled within the limit is spelled.
wide : (tokens : List Spelled) (decls : List Decl) → IsProgramOf decls tokens
    → Spells (index_in (texts_of tokens)) decls tokens
wide tokens decls given = record {
  spelling = given.spelling;
  form = record {
    written = given.form.written;
    spelled = (most_nests, given.form.spelled);
    whole = given.form.whole;
  };
}

pub never_both : (tokens : List Spelled) (decls : List Decl) (fault : ParseFault)
    → IsProgramOf decls tokens → ¬ (IsSyntaxFault tokens fault)
never_both tokens decls (faults.Unexpected n) h k =
    laws.never_both (index_in (texts_of tokens)) tokens n (decls, wide tokens decls h) k.unexpected
never_both tokens decls (faults.TooDeep n) h k =
    laws.never_too_deep (index_in (texts_of tokens)) most_nests tokens n (decls, h) k
never_both tokens decls faults.Memory h k = k

pub one_fault : (tokens : List Spelled) (a b : ParseFault) → IsSyntaxFault tokens a
    → IsSyntaxFault tokens b → a ≡ b
one_fault tokens (faults.Unexpected m) (faults.Unexpected n) h k =
    ap faults.Unexpected
    (laws.one_unexpected (index_in (texts_of tokens)) tokens m n h.unexpected k.unexpected)
one_fault tokens (faults.Unexpected m) (faults.TooDeep n) h k =
    absurd (laws.one_fault (index_in (texts_of tokens)) most_nests tokens m n h k)
one_fault tokens (faults.TooDeep m) (faults.Unexpected n) h k =
    absurd (laws.one_fault (index_in (texts_of tokens)) most_nests tokens n m k h)
one_fault tokens (faults.TooDeep m) (faults.TooDeep n) h k =
    ap faults.TooDeep
    (laws.one_too_deep (index_in (texts_of tokens)) most_nests tokens m n h k)
one_fault tokens faults.Memory b h k = absurd h
one_fault tokens a faults.Memory h k = absurd k

-- Programs are trees with keys of their own and names with texts.

pub keyed_program : (tokens : List Spelled) (decls : List Decl) → IsProgramOf decls tokens
    → AreKeyed decls
keyed_program tokens decls given =
    spelled_are_keyed (index_in (texts_of tokens)) decls tokens (wide tokens decls given)

-- Programs have no more declarations than tokens.
pub few_program : (tokens : List Spelled) (decls : List Decl) → IsProgramOf decls tokens
    → length decls ≤ length tokens
few_program tokens decls given =
    spelled_are_few (index_in (texts_of tokens)) decls tokens (wide tokens decls given)

pub named_program : (tokens : List Spelled) (decls : List Decl) → IsProgramOf decls tokens
    → AreNamed (texts_of tokens) decls
named_program tokens decls given =
    spelled_are_named (texts_of tokens) decls tokens (value_known tokens)
    (wide tokens decls given)

-- What the code reads with the names that it has interned.

module _ (tokens first again : List Spelled) (names : List (List ℕ)) (around : Surroundings)
    (left : List Spelled) (interned : names ≡ texts_of first) (same : first ≡ tokens)
    (same' : again ≡ tokens) (is : around ≡ nothing_around names) where
  names-are : names ≡ texts_of tokens
  names-are = interned ∙ ap texts_of same

  around-is : around ≡ nothing_around (texts_of tokens)
  around-is = is ∙ ap nothing_around names-are

  whole_is : whole_program (index_in (texts_of tokens)) tokens ≡ whole_around (known around) again
  whole_is = λ j. whole_around (known (sym around-is j)) (sym same' j)

  pub reads_program : (written decls : List Decl) (last : List Spelled) → last ≡ tokens
      → whole_around (known around) again ≡ Ok (written, left)
      → decls ≡ written ++ enums (index_in around.texts) last → IsSpelling tokens
      → IsProgramOf decls tokens
  reads_program written decls last last-is e whole spelling =
      read_program tokens spelling written decls left (whole_is ∙ e)
      (whole ∙ (λ j. written ++ enums (index_in (around-is j).texts) (last-is j)))

  pub stops_with : (stop : Stop) (fault : Fault)
      → ((answer : Answer (List Decl)) → Gives answer (Err stop) left → answer ≡ Err fault)
      → Gives (whole_around (known around) again) (Err stop) left → Stops tokens fault
  stops_with stop fault named gives = whole_is ∙ named (whole_around (known around) again) gives
