-- The global actors of a text have names, and one list of them.
use Rattle.std.proofs.Common.{◌≡◌, ℕ, ◌<◌, ◌≤◌, Bool, true, false, List, [], ◌∷◌, ◌++◌, length}
use Rattle.std.proofs.Common.{flat_map, All, Contains, arith, refl, ap, subst, ◌∙◌, sym}
use Rattle.std.specs.Prelude.{bytes_eq, if◌then◌else◌}
use Rattle.std.specs.List.{list_any}
use Rattle.std.proofs.lemmas.List.{length-append, get_or_default}
use Rattle.std.proofs.lemmas.List.Elements.{All-contains, All-cons, All-from_get_or}
use Rattle.sw_list.proofs.Members.{first_in, in_flat_map, none_in, of_flat_map, one_in}
use Rattle.sw_token.specs.Spelling.{Spelled, spelling_of}
use Rattle.sw_token.proofs.TokenLaws.{one_list as one_tokens}
use Rattle.sw_grammar_facts.specs.Interned.{texts_in}
use Rattle.sw_tree.specs.Contents.{AreNamed}
use Rattle.sw_tree.specs.Names.{main_actor_id, predeclared, with_text, with_texts}
use Rattle.sw_tree.specs.NamesIn.{decl_names, names_in}
use Rattle.sw_tree.specs.declared.decl.Decl.{Decl}
use Rattle.sw_tree.specs.declared.decl.Decl.TheVariants.{Entry, Struct, Enum, Class, Actor}
use Rattle.sw_tree.specs.declared.decl.Decl.TheVariants.{GlobalActor, Func, Global}
use Rattle.sw_tree.specs.declared.name.Name.{Name}
use Rattle.sw_parse_decl.specs.Programs.{IsProgramOf, texts_of}
use Rattle.sw_parse_decl.proofs.ProgramFaults.{named_program}
use Rattle.sw_decls.specs.Declaring.{actor_ids}
use Rattle.sw_decls.specs.declared.signature.AsyncDefault.{AsyncDefault}
use Rattle.sw_verdict.specs.ActorNames.{HasActorNames, actor_names}
use Rattle.sw_verdict.specs.Phases.{phases_to_size}
use Rattle.sw_verdict.specs.Verdict.{Breaches}
use Rattle.sw_verdict.proofs.GraphsExist.{some_graph}
use Rattle.sw_verdict.proofs.SameProgram.{same_decls}

one_more : (texts : List (List ℕ)) (text : List ℕ) → length texts ≤ length (with_text texts text)
unfolding with_text
one_more texts text = by (list_any (bytes_eq text) texts) where
  by : (b : Bool) → length texts ≤ length (if b then texts else texts ++ text ∷ [])
  by true = omega arith
  by false = omega (arith, length-append texts (text ∷ []))

more_texts : (texts more : List (List ℕ)) → length texts ≤ length (with_texts texts more)
unfolding with_texts
more_texts texts [] = omega arith
more_texts texts (text ∷ more) =
    omega (arith, one_more texts text, more_texts (with_text texts text) more)

main_known : (tokens : List Spelled) → main_actor_id < length (texts_of tokens)
unfolding texts_of predeclared
main_known tokens = omega (arith, more_texts predeclared (texts_in tokens))

-- the word of a global actor is a name of its declaration
actor_word : (decl : Decl) (id : ℕ) → Contains (actor_ids decl) id
    → (word : Name) × Contains (decl_names decl) word × (word.id ≡ id)
unfolding decl_names
actor_word (GlobalActor word made) id is = (word, first_in word (made ∷ []), one_in word.id id is)
actor_word (Entry word written at is_async body) id is = absurd (none_in id is)
actor_word (Struct word conforms fields funcs) id is = absurd (none_in id is)
actor_word (Enum word conforms cases funcs) id is = absurd (none_in id is)
actor_word (Class written word conforms props inits funcs) id is = absurd (none_in id is)
actor_word (Actor word props inits funcs) id is = absurd (none_in id is)
actor_word (Func func) id is = absurd (none_in id is)
actor_word (Global global) id is = absurd (none_in id is)

module _ (texts : List (List ℕ)) (decls : List Decl) (named : AreNamed texts decls) where
  id_known : (id : ℕ) → Contains (flat_map actor_ids decls) id → id < length texts
  unfolding names_in
  id_known id has =
      let (decl, among, is) = of_flat_map actor_ids decls id has in
      let (word, inside, same) = actor_word decl id is in
      subst (λ i. i < length texts) same
      (All-contains (λ name. name.id < length texts) (flat_map decl_names decls) word named
      (in_flat_map decl_names decls decl word among inside))

  ids_known : All (λ id. id < length texts) (flat_map actor_ids decls)
  ids_known = All-from_get_or (λ id. id < length texts) (flat_map actor_ids decls) 0 (λ i within.
      id_known _ (i, within, get_or_default (flat_map actor_ids decls) i _ 0 within))

-- each global actor of a program has a name
pub actors_known : (tokens : List Spelled) (decls : List Decl) → IsProgramOf decls tokens
    → All (λ id. id < length (texts_of tokens)) (main_actor_id ∷ flat_map actor_ids decls)
actors_known tokens decls is =
    All-cons (λ id. id < length (texts_of tokens)) main_actor_id (flat_map actor_ids decls)
    (main_known tokens) (ids_known (texts_of tokens) decls (named_program tokens decls is))

pub some_names : (rule : AsyncDefault) (text : List ℕ) → Breaches rule phases_to_size text []
    → (names : List (List ℕ)) × HasActorNames text names
some_names rule text passes =
    let (graph, of) = some_graph rule text passes in
    let program = of.has_world.program in (
      actor_names (texts_of (spelling_of text program.tokens)) of.decls,
      record { decls = of.decls; program = program; names_are = refl },
    )

pub one_names : (text : List ℕ) (a b : List (List ℕ)) → HasActorNames text a
    → HasActorNames text b → a ≡ b
one_names text a b is other =
    let tokens = one_tokens text is.program.tokens other.program.tokens is.program.are_tokens
    other.program.are_tokens in
    is.names_are ∙ ap (λ ts. actor_names (texts_of (spelling_of text ts)) is.decls) tokens
    ∙ ap (actor_names (texts_of (spelling_of text other.program.tokens)))
    (same_decls text is.program other.program) ∙ sym other.names_are
