-- The body of a program's entry, by its number.
use Rattle.std.proofs.Common.{◌≡◌, ℕ, ◌+◌, Bool, false, List, [], ◌∷◌, Some, None, Contains, inl}
use Rattle.std.proofs.Common.{inr, refl, sym, ap, ◌∙◌, slice_get}
use Rattle.std.proofs.lemmas.Option.{same_Some}
use Rattle.sw_tree.specs.declared.decl.Decl.{Decl}
use Rattle.sw_tree.specs.declared.decl.Decl.TheVariants.{Entry, Struct, Enum, Class, Actor}
use Rattle.sw_tree.specs.declared.decl.Decl.TheVariants.{GlobalActor, Func, Global}
use Rattle.sw_tree.specs.declared.decl.Written.{Written}
use Rattle.sw_tree.specs.declared.name.Name.{Name}
use Rattle.sw_tree.specs.declared.stmt.Block.{Block}
use Rattle.sw_types.specs.declared.ty.Ty.TheVariants as types
use Rattle.sw_graph.specs.declared.graph.Graph.{Graph}
use Rattle.sw_decl_words.specs.Shaped.{written_actor}
use Rattle.sw_decl_words.specs.Words.{shapes_made, top_meaning}
use Rattle.sw_decls.specs.Signatures.{actor_iso, funcs_of}
use Rattle.sw_decls.specs.declared.signature.AsyncDefault.{AsyncDefault}
use Rattle.sw_decls.specs.declared.signature.Signature.{Signature}
use Rattle.sw_typing_rules.specs.Worlds.{World}
use Rattle.sw_isolation_rules.specs.Programs.{func_at}
use Rattle.sw_lower_code.specs.Whole.{Body}
use Rattle.sw_lower_rules.specs.Bodies.{decl_bodies, entry_key, func_bodies, func_signed}
use Rattle.sw_lower_rules.specs.Bodies.{numbers_of, signed}
use Rattle.sw_decl_words.specs.Words.{globals_made}
use Rattle.sw_lower_rules.specs.Expressions.{body_code}
use Rattle.sw_lower_rules.specs.Statements.{block_code}
use Rattle.sw_lower_rules.specs.Tables.{Tables, plain}
use Rattle.sw_lower_formed_facts.proofs.Headers.FoundFuncs.{func_is}
use Rattle.sw_lower_formed_facts.proofs.Headers.Signed.{for_found}
use Rattle.sw_typing_facts.proofs.Lists.Found.{found_in_found}
use Rattle.sw_typing_facts.proofs.Lists.Listed.{in_first}
use Rattle.sw_typing_facts.proofs.Programs.MadeOf.{func_stands}
use Rattle.sw_lower_formed_facts.proofs.Bodies.MadeOf.{body_stands}
use Rattle.sw_typing_facts.proofs.Programs.Standing.{StandsFrom}
use Rattle.sw_lower_total_facts.specs.Programs.{IsWelltyped, noted_tables}
use Rattle.sw_lower_total_facts.proofs.Lowering.{bodies_are_found}
use Rattle.sw_lower_total_facts.proofs.Programs.Found.{found_at, func_at_key, func_there}
use Rattle.sw_lower_first_facts.specs.Programs.{IsGraph}
use Rattle.sw_lower_first_facts.proofs.Programs.Places.{body_at}

-- an entry with a key
record EntryOf (number index : ℕ) (decls : List Decl) (key : ℕ) : Type 0 where
  n : ℕ
  g : ℕ
  word : Name
  written : Written
  is_async : Bool
  body : Block
  stands : StandsFrom number index decls n g (Entry word written key is_async body)

-- one after another declaration
later_entry : (number index : ℕ) (decl : Decl) (decls : List Decl) (key : ℕ)
    → EntryOf (number + shapes_made decl) (index + globals_made decl) decls key
    → EntryOf number index (decl ∷ decls) key
later_entry number index decl decls key later = record {
  n = later.n;
  g = later.g;
  word = later.word;
  written = later.written;
  is_async = later.is_async;
  body = later.body;
  stands = inr later.stands;
}

entry_of : (number index : ℕ) (decls : List Decl) (key : ℕ) → entry_key decls ≡ Some key
    → EntryOf number index decls key
entry_of number index [] key is = cc
entry_of number index (Entry word written at is_async body ∷ decls) key is = record {
  n = number;
  g = index;
  word = word;
  written = written;
  is_async = is_async;
  body = body;
  stands = inl (refl, refl, ap (λ k. Entry word written k is_async body) (same_Some at key is));
}
entry_of number index (Struct word conforms fields funcs ∷ decls) key is =
    later_entry number index (Struct word conforms fields funcs) decls key
    (entry_of (number + 1) (index + 0) decls key is)
entry_of number index (Enum word conforms cases funcs ∷ decls) key is =
    later_entry number index (Enum word conforms cases funcs) decls key
    (entry_of (number + 1) (index + 0) decls key is)
entry_of number index (Class written word conforms props inits funcs ∷ decls) key is =
    later_entry number index (Class written word conforms props inits funcs) decls key
    (entry_of (number + 1) (index + 0) decls key is)
entry_of number index (Actor word props inits funcs ∷ decls) key is =
    later_entry number index (Actor word props inits funcs) decls key
    (entry_of (number + 1) (index + 0) decls key is)
entry_of number index (GlobalActor word made ∷ decls) key is =
    later_entry number index (GlobalActor word made) decls key
    (entry_of (number + 0) (index + 0) decls key is)
entry_of number index (Func func ∷ decls) key is =
    later_entry number index (Func func) decls key
    (entry_of (number + 0) (index + 0) decls key is)
entry_of number index (Global global ∷ decls) key is =
    later_entry number index (Global global) decls key
    (entry_of (number + 0) (index + 1) decls key is)

-- what an entry declares
abbrev pub entry_signature : List Decl → Written → ℕ → Bool → Signature
entry_signature decls written at is_async = record {
  key = record { at = at; id = 10 };
  owner = None;
  iso = actor_iso (written_actor (top_meaning decls) written);
  is_async = is_async;
  params = [];
  result = types.Unit;
  sends = false;
}

entry_declared : (decls : List Decl) (rule : AsyncDefault) (n : ℕ) (word : Name)
    (written : Written) (at : ℕ) (is_async : Bool) (body : Block)
    → Contains (funcs_of (top_meaning decls) rule n (Entry word written at is_async body))
    (entry_signature decls written at is_async)
unfolding funcs_of
entry_declared decls rule n word written at is_async body =
    in_first (entry_signature decls written at is_async) []

-- the body of an entry
abbrev pub entry_body : Tables → List Decl → Written → ℕ → Bool → Block → Body
entry_body tables decls written at is_async block =
    let func = entry_signature decls written at is_async in
    signed tables func [] (body_code func.result (block_code tables None block))

entry_has : (tables : Tables) (decls : List Decl) (n g : ℕ) (word : Name) (written : Written)
    (at : ℕ) (is_async : Bool) (block : Block)
    → func_at tables.world tables.answers at ≡ Some (entry_signature decls written at is_async)
    → Contains (decl_bodies tables n g (Entry word written at is_async block))
    (entry_body tables decls written at is_async block)
unfolding decl_bodies func_bodies
entry_has tables decls n g word written at is_async block found =
    for_found (func_at tables.world tables.answers at)
    (entry_signature decls written at is_async) (func_signed tables [] block)
    (entry_body tables decls written at is_async block) found
    (in_first (entry_body tables decls written at is_async block)
    (block_code tables None block).inside)

-- where the graph has the body of the entry
pub record EntryAt (tables : Tables) (decls : List Decl) (ordered : List Body) (entry : ℕ)
    : Type 0 where
  pub written : Written
  pub key : ℕ
  pub is_async : Bool
  pub block : Block
  pub at : slice_get ordered entry ≡ Some (entry_body tables decls written key is_async block)

-- The entry of a graph is that of its program.
pub entry_at : (decls : List Decl) (rule : AsyncDefault) (world : World) (graph : Graph)
    → IsWelltyped decls rule world → (lowered : IsGraph world decls graph)
    → EntryAt (noted_tables world decls) decls lowered.ordered graph.entry
entry_at decls rule world graph is lowered =
    let tables = noted_tables world decls in
    let (key, key_is, number) = found_in_found (entry_key decls)
    (λ key. numbers_of lowered.ordered (plain key)) graph.entry (sym lowered.entry) in
    let one = entry_of 0 0 decls key key_is in
    let decl = Entry one.word one.written key one.is_async one.body in
    let func = entry_signature decls one.written key one.is_async in
    let declared = entry_declared decls rule one.n one.word one.written key one.is_async one.body in
    let there = func_at_key decls rule world is.declared func key
    (func_there decls rule world is.declared one.n one.g decl func one.stands declared) refl in
    let found = found_at world tables.answers key there in
    let same : there.func ≡ func =
    func_is decls rule world tables.answers is.keyed is.declared key there.func func found
    (func_stands (top_meaning decls) rule decls one.n one.g decl func one.stands declared) refl in
    let body = entry_body tables decls one.written key one.is_async one.body in
    record {
      written = one.written;
      key = key;
      is_async = one.is_async;
      block = one.body;
      at = body_at tables decls lowered.ordered lowered.are_ordered
          (bodies_are_found decls rule world is lowered.ordered lowered.are_ordered) body
          graph.entry
          (body_stands tables decls one.n one.g decl body one.stands
          (entry_has tables decls one.n one.g one.word one.written key one.is_async one.body
          (found ∙ ap Some same))) number;
    }
