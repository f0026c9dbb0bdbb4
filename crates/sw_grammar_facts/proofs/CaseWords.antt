-- The words of the cases of enums are counted in the tokens of a spelling, so they differ.
use Rattle.std.proofs.Common.{◌≡◌, ◌≢◌, ℕ, ◌≤◌, ◌<◌, Bool, true, false, List, [], ◌∷◌, ◌++◌, map}
use Rattle.std.proofs.Common.{bytes_eq, codes, get_or, length, nat_lt, if◌then◌else◌, refl, sym, ap}
use Rattle.std.proofs.Common.{◌∙◌, subst, arith}
use Rattle.std.proofs.lemmas.Bool.Decides.{nat_tests}
use Rattle.std.proofs.lemmas.List.Elements.{All-from_recursion, recursion_from_All}
use Rattle.std.proofs.lemmas.List.Kept.{AllPairs-cons}
use Rattle.std.proofs.lemmas.List.Sums.{passes_at_first}
use Rattle.std.proofs.lemmas.Slice.Eq.{bytes_eq-Decides}
use Rattle.std.specs.List.{AllByRecursion, position_or_len}
use Rattle.sw_token.specs.Spelling.{Spelled}
use Rattle.sw_tree.proofs.Counting.{Weight, hits, hits_same, in_all, in_all-nil, in_all-cons}
use Rattle.sw_tree.proofs.Counting.{in_all-map}
use Rattle.sw_tree.specs.CasePlaces.{case_names, CasesApart, NamesDiffer}
use Rattle.sw_tree.specs.declared.decl.CaseTree.{CaseTree}
use Rattle.sw_tree.specs.declared.decl.Decl.{Decl}
use Rattle.sw_tree.specs.Names.{id_in}
use Rattle.sw_tree.specs.declared.name.Name.{Name}
use Rattle.sw_sugar.specs.Optionals.{name_at}
use Rattle.sw_grammar.specs.Around.{index_in}
use Rattle.sw_grammar.specs.Enums.{Marked, enum_of, enums, optionals}
use Rattle.sw_grammar.specs.Program.{Spells}
use Rattle.sw_grammar_facts.specs.Interned.{AreInterned, texts_in}
use Rattle.sw_grammar_facts.proofs.Owning.{none}
use Rattle.sw_grammar_facts.proofs.DeclWeights.{DeclWeights, weighing}
use Rattle.sw_grammar_facts.proofs.KeysDiffer.{span, hits_start, counted_once}
use Rattle.sw_grammar_facts.proofs.ProgramRules.{owned_decls}

-- the place of a word
abbrev word_place : Name → Weight
word_place name = hits name.at

-- only the words of cases weigh something
case_words : (id_of : List ℕ → ℕ) → DeclWeights id_of
case_words id_of = record {
  of_token = span;
  entry = λ at. none;
  node = λ name. none;
  label = word_place;
  func = λ func. none;
  prop = λ prop. none;
  case = λ given. word_place given.word;
  decl = λ given. in_all word_place (case_names given);
  of_entry = λ token _ k. omega arith;
  of_word = λ token _ _ k. omega (arith, hits_start token k);
  of_mark = λ token _ _ k. omega (arith, hits_start token k);
  func-is = λ given k. omega arith;
  prop-is = λ given k. omega arith;
  case-is = λ given k. omega arith;
  decl-Entry = λ word mark at is_async body k. omega (arith, in_all-nil word_place k);
  decl-Struct = λ word conforms fields funcs k. omega (arith, in_all-nil word_place k);
  decl-Enum = λ word conforms given funcs k.
      omega (arith, in_all-map word_place (λ (c : CaseTree). c.word) given k);
  decl-Class = λ mark word conforms props inits funcs k. omega (arith, in_all-nil word_place k);
  decl-Actor = λ word props inits funcs k. omega (arith, in_all-nil word_place k);
  decl-GlobalActor = λ word made k. omega (arith, in_all-nil word_place k);
  decl-Func = λ given k. omega (arith, in_all-nil word_place k);
  decl-Global = λ given _ k. omega (arith, in_all-nil word_place k);
}

-- what isn't counted where a name stands differs from it
others_differ : (name : Name) (names : List Name) → in_all word_place names name.at ≡ 0
    → AllByRecursion (λ other. name ≢ other) names
others_differ name [] free = tt
others_differ name (other ∷ names) free =
    let here = in_all-cons word_place other names name.at in (
      λ same. omega (arith, free, here, hits_same name.at, ap (λ n. word_place n name.at) same),
      others_differ name names (omega (arith, free, here)),
    )

names_differ : (names : List Name) → ((k : ℕ) → in_all word_place names k ≤ 1) → NamesDiffer names
names_differ [] once = λ i j d less within. absurd (omega arith)
names_differ (name ∷ names) once =
    AllPairs-cons (λ one other. one ≢ other) name names
    (All-from_recursion (λ other. name ≢ other) names (others_differ name names (omega (
      arith,
      once name.at,
      in_all-cons word_place name names name.at,
      hits_same name.at,
    ))))
    (names_differ names (λ k. omega (arith, once k, in_all-cons word_place name names k)))

each_apart : (decls : List Decl)
    → ((k : ℕ) → in_all (λ decl. in_all word_place (case_names decl)) decls k ≤ 1)
    → CasesApart decls
unfolding in_all
each_apart [] once = tt
each_apart (decl ∷ decls) once = (
  names_differ (case_names decl) (λ k. let one = once k in omega arith),
  each_apart decls (λ k. let one = once k in omega arith),
)

-- the texts of a list have ids of their own
ids_differ : (texts : List (List ℕ)) (one other : List ℕ) → id_in texts one < length texts
    → id_in texts other < length texts → bytes_eq one other ≡ false
    → id_in texts one ≢ id_in texts other
unfolding id_in
ids_differ texts one other has_one has_other differ same =
    let first : bytes_eq one (get_or texts (position_or_len (bytes_eq one) texts) []) ≡ true
    = passes_at_first (bytes_eq one) texts [] has_one in
    let second : bytes_eq other (get_or texts (position_or_len (bytes_eq other) texts) []) ≡ true
    = passes_at_first (bytes_eq other) texts [] has_other in
    let one_is = (bytes_eq-Decides one _).0 first in
    let other_is = (bytes_eq-Decides other _).0 second in
    let equal : one ≡ other
    = one_is ∙ ap (λ place. get_or texts place []) same ∙ sym other_is in
    let clash : true ≡ false = sym ((bytes_eq-Decides one other).1 equal) ∙ differ in
    absurd (cc)

pub index_is : (texts : List (List ℕ)) (text : List ℕ) → id_in texts text < length texts
    → index_in texts text ≡ id_in texts text
index_is texts text has =
    let is : nat_lt (id_in texts text) (length texts) ≡ true = grind (arith, nat_tests) in
    ap (λ (b : Bool). if b then id_in texts text else 0) is

apart_both : (written more : List Decl) → CasesApart written → CasesApart more
    → CasesApart (written ++ more)
apart_both [] more first second = second
apart_both (decl ∷ written) more first second = (first.0, apart_both written more first.1 second)

-- Where `none` and `some` have ids of their own, the cases of each optional differ.
module _ (texts : List (List ℕ)) (has_none : id_in texts (codes "none") < length texts)
    (has_some : id_in texts (codes "some") < length texts) where
  one_apart : (one : Marked) → NamesDiffer (case_names (enum_of (index_in texts) one))
  one_apart one =
      let differ = ids_differ texts (codes "none") (codes "some") has_none has_some refl in
      let other = name_at one.mark.at (index_in texts (codes "some")) in
      AllPairs-cons (λ one other. one ≢ other) (name_at one.mark.at (index_in texts (codes "none")))
      (other ∷ [])
      (All-from_recursion (λ some. name_at one.mark.at (index_in texts (codes "none")) ≢ some)
      (other ∷ []) (
        λ same. differ (sym (index_is texts (codes "none") has_none)
            ∙ ap (λ (name : Name). name.id) same ∙ index_is texts (codes "some") has_some),
        tt,
      ))
      (λ i j d less within. absurd (omega arith))

  enums_apart : (all : List Marked) → CasesApart (map (enum_of (index_in texts)) all)
  enums_apart [] = tt
  enums_apart (one ∷ all) = (one_apart one, enums_apart all)

pub cases_are_apart : (texts : List (List ℕ)) (decls : List Decl) (tokens : List Spelled)
    → AreInterned texts tokens → Spells (index_in texts) decls tokens → CasesApart decls
unfolding case_words weighing
cases_are_apart texts decls tokens interned given =
    let id_of = index_in texts in
    let names = recursion_from_All (λ text. id_in texts text < length texts) (texts_in tokens)
    interned in
    subst CasesApart (sym given.form.whole)
    (apart_both given.form.written (enums id_of tokens)
    (each_apart given.form.written (λ k. omega (
      arith,
      owned_decls (weighing (case_words id_of)) given.form.written tokens given.spelling refl
          given.form.spelled k,
      counted_once tokens given.spelling k,
    )))
    (enums_apart texts names.0 names.1.0 (optionals tokens)))
