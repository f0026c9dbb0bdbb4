-- Each declaration has a token of its own, so tokens spell no more declarations than they are.
use Rattle.std.proofs.Common.{◌≡◌, ℕ, ◌≤◌, List, [], ◌∷◌, length, refl, arith}
use Rattle.sw_token.specs.Spelling.{Spelled}
use Rattle.sw_tree.proofs.Counting.{Weight, in_all}
use Rattle.sw_tree.specs.declared.decl.Decl.{Decl}
use Rattle.sw_grammar_facts.proofs.Owning.{none}
use Rattle.sw_grammar_facts.proofs.Questions.{besides, besides_is}
use Rattle.sw_grammar.specs.Program.{Spells}
use Rattle.sw_grammar_facts.proofs.DeclWeights.{DeclWeights, weighing}
use Rattle.sw_grammar_facts.proofs.ProgramRules.{owned}

abbrev single : Weight
single k = 1

-- A token that gives a declaration its key weighs one, and a declaration weighs one.
decls : (id_of : List ℕ → ℕ) → DeclWeights id_of
decls id_of = record {
  of_token = besides (λ token. single);
  entry = λ at. single;
  node = λ name. single;
  label = λ name. none;
  func = λ func. single;
  prop = λ prop. single;
  case = λ given. none;
  decl = λ decl. single;
  of_entry = λ token other k. omega (arith, besides_is (λ token. single) token other k);
  of_word = λ token other _ k. omega (arith, besides_is (λ token. single) token other k);
  of_mark = λ token _ _ k. omega arith;
  func-is = λ given k. omega arith;
  prop-is = λ given k. omega arith;
  case-is = λ given k. omega arith;
  decl-Entry = λ word mark at is_async body k. omega arith;
  decl-Struct = λ word conforms fields funcs k. omega arith;
  decl-Enum = λ word conforms given funcs k. omega arith;
  decl-Class = λ mark word conforms props inits funcs k. omega arith;
  decl-Actor = λ word props inits funcs k. omega arith;
  decl-GlobalActor = λ word made k. omega arith;
  decl-Func = λ given k. omega arith;
  decl-Global = λ given _ k. omega arith;
}

-- weights of one add up to the length
all_single : {X : Type 0} (xs : List X) (k : ℕ) → in_all (λ x. single) xs k ≡ length xs
unfolding in_all
all_single [] k = refl
all_single (x ∷ xs) k = let more = all_single xs k in omega (arith, more)

pub spelled_are_few : (id_of : List ℕ → ℕ) (given : List Decl) (tokens : List Spelled)
    → Spells id_of given tokens → length given ≤ length tokens
unfolding decls weighing
spelled_are_few id_of given tokens spells =
    let less : in_all {X = Decl} (λ x. single) given 0 ≤ in_all {X = Spelled} (λ x. single) tokens 0
    = owned (weighing (decls id_of)) (λ token. single) (λ token k. omega arith)
    (λ one k. omega arith) given tokens refl spells 0 in
    omega (arith, less, all_single given 0, all_single tokens 0)
