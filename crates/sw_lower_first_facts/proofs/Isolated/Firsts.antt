-- The entry and the functions that give first values take nothing, and are isolated to no actor or
-- to a global actor.
use Rattle.std.proofs.Common.{◌≡◌, ℕ, ◌≤◌, ◌==◌, Bool, true, false, List, [], ◌∷◌}
use Rattle.std.proofs.Common.{flat_map, Option, Some, None, refl, ap, arith}
use Rattle.std.proofs.Common.{Contains, slice_get}
use Rattle.std.specs.List.{AllByRecursion}
use Rattle.std.specs.Prelude.{if◌then◌else◌}
use Rattle.sw_tree.specs.Contents.{AreKeyed}
use Rattle.sw_tree.specs.Keys as tree
use Rattle.sw_tree.specs.Keys.{decl_keys, prop_keys}
use Rattle.sw_tree.specs.declared.decl.Decl.{Decl}
use Rattle.sw_tree.specs.declared.decl.Decl.TheVariants.{Global}
use Rattle.sw_tree.specs.declared.decl.PropTree.{PropTree}
use Rattle.sw_tree.proofs.Counting.{count, hits, hits_same}
use Rattle.sw_graph.specs.Placed.{FunctionAt, IsFirst, IsFreeOrGlobal}
use Rattle.sw_graph.specs.declared.graph.Graph.{Graph}
use Rattle.sw_decls.specs.Signatures.{actor_iso}
use Rattle.sw_decls.specs.declared.signature.AsyncDefault.{AsyncDefault}
use Rattle.sw_typing_rules.proofs.OneWorld.{distinct_once}
use Rattle.sw_typing_rules.specs.Worlds.{IsWorldOf, World}
use Rattle.sw_isolation_rules.specs.Answers.{Answers}
use Rattle.sw_isolation_rules.specs.Lists.{bodies_in}
use Rattle.sw_isolation_rules.specs.Programs.{decl_notes, noted}
use Rattle.sw_isolation_rules.specs.declared.note.BodyIso.{BodyIso}
use Rattle.sw_isolation_rules.specs.declared.note.Note.{Note}
use Rattle.sw_isolation_rules.specs.declared.note.Note.TheVariants.{Body, Kind, Refused, Race, Var}
use Rattle.sw_isolation_rules.specs.declared.note.Note.TheVariants.{Mentioned, Captures}
use Rattle.sw_lower_code.specs.Whole.{function_of}
use Rattle.sw_lower_rules.specs.Bodies.{first_value}
use Rattle.sw_lower_rules.specs.Expressions.{iso_of}
use Rattle.sw_lower_rules.specs.Statements.{expr_code}
use Rattle.sw_lower_rules.specs.Tables.{body_with}
use Rattle.sw_typing_facts.proofs.Lists.Listed.{place_in}
use Rattle.sw_typing_facts.proofs.Programs.Standing.{Stands}
use Rattle.sw_lower_total_facts.specs.Programs.{IsWelltyped, noted_tables}
use Rattle.sw_lower_first_facts.specs.Isolated.{BodiesAre}
use Rattle.sw_lower_first_facts.specs.Programs.{IsGraph}
use Rattle.sw_lower_first_facts.proofs.Isolated.Declared.{decl_counts, from_noted}
use Rattle.sw_lower_first_facts.proofs.Isolated.Declared.{global_noted, prop_split}
use Rattle.sw_lower_first_facts.proofs.Programs.Entries.{entry_at, entry_body}
use Rattle.sw_lower_first_facts.proofs.Programs.Places.{function_at}
use Rattle.sw_lower_first_facts.proofs.Programs.Starts.{start_at}

-- what is written before a global variable or an entry names a global actor or none
actor_first : (actor : Option ℕ) → IsFreeOrGlobal (actor_iso actor)
actor_first None = tt
actor_first (Some actor) = tt

-- a body with this key is isolated so
abbrev IsSo : ℕ → BodyIso → Type 0
IsSo key body = body.key ≡ key → IsFreeOrGlobal body.iso

-- the bodies among notes
bodies_are : (P : BodyIso → Type 0) (notes : List Note) → BodiesAre P notes
    → AllByRecursion P (bodies_in notes)
bodies_are P [] are = tt
bodies_are P (Body body ∷ notes) are = (are.0, bodies_are P notes are.1)
bodies_are P (Kind kinded ∷ notes) are = bodies_are P notes are.1
bodies_are P (Refused placed ∷ notes) are = bodies_are P notes are.1
bodies_are P (Race placed ∷ notes) are = bodies_are P notes are.1
bodies_are P (Var key ∷ notes) are = bodies_are P notes are.1
bodies_are P (Mentioned one ∷ notes) are = bodies_are P notes are.1
bodies_are P (Captures held ∷ notes) are = bodies_are P notes are.1

found_so : (key : ℕ) (bodies : List BodyIso) → AllByRecursion (IsSo key) bodies
    → IsFreeOrGlobal (iso_of (body_with bodies key))
found_so key [] all = tt
found_so key (body ∷ bodies) all =
    by (body.key == key) refl (found_so key bodies all.1) where
      by : (same : Bool) → (body.key == key) ≡ same
          → IsFreeOrGlobal (iso_of (body_with bodies key))
          → IsFreeOrGlobal (iso_of (if same then Some body else body_with bodies key))
      by true same more =
          all.0 (let is : body.key ≡ key = grind (arith, same) in is)
      by false same more = more

other_key : (key : ℕ) (body : BodyIso) → hits body.key key ≡ 0 → IsSo key body
other_key key body apart same =
    absurd (omega (arith, apart, hits_same key, ap (λ k. hits k key) same))

keys_once : (decls : List Decl) → AreKeyed decls → (key : ℕ)
    → count (flat_map decl_keys decls) key ≤ 1
unfolding tree.keys_of
keys_once decls keyed key = distinct_once (flat_map decl_keys decls) keyed key

global_keys : (prop : PropTree) → decl_keys (Global prop) ≡ prop_keys prop
unfolding decl_keys
global_keys prop = refl

-- What is noted of the key of a global variable is isolated so.
value_iso : (decls : List Decl) (rule : AsyncDefault) (world : World) (answers : Answers)
    → AreKeyed decls → IsWorldOf decls rule world → (n g : ℕ) (prop : PropTree)
    → Stands decls n g (Global prop)
    → IsFreeOrGlobal (iso_of (body_with (bodies_in (noted world answers decls)) prop.word.at))
unfolding decl_notes
value_iso decls rule world answers keyed is n g prop stands =
    let key = prop.word.at in
    let P = IsSo key in
    let other = other_key key in
    let once = keys_once decls keyed key in
    let counted = decl_counts P key other decls rule world is answers 0 0 decls n g (Global prop)
    stands in
    let own = ap (λ keys. count keys key) (global_keys prop) in
    let split = prop_split P key other decls rule world is answers prop in
    let so = global_noted P key other decls rule world is answers prop
    (λ same. actor_first _) (omega (arith, once, counted, own, split, hits_same key)) in
    found_so key (bodies_in (noted world answers decls))
    (bodies_are P (noted world answers decls)
    (from_noted P key other decls rule world is answers 0 0 decls n g (Global prop) stands once
    (omega (arith, own, split, hits_same key)) (λ m. so)))

module _ (decls : List Decl) (rule : AsyncDefault) (world : World) (graph : Graph)
    (is : IsWelltyped decls rule world) (lowered : IsGraph world decls graph) where
  -- the function of the entry
  pub entry_first : FunctionAt graph graph.entry IsFirst
  unfolding function_of
  entry_first =
      let tables = noted_tables world decls in
      let one = entry_at decls rule world graph is lowered in
      function_at graph lowered.ordered lowered.functions graph.entry
      (entry_body tables decls one.written one.key one.is_async one.block) one.at IsFirst
      (record { takes = refl; iso = actor_first _ })

  start_first : (g f : ℕ) → slice_get graph.starts g ≡ Some f → FunctionAt graph f IsFirst
  unfolding function_of
  start_first g f at =
      let tables = noted_tables world decls in
      let one = start_at decls rule world graph is lowered g f at in
      function_at graph lowered.ordered lowered.functions f
      (first_value tables one.prop.word.at g (expr_code tables None one.value)) one.at IsFirst
      (record {
        takes = refl;
        iso = value_iso decls rule world tables.answers is.keyed is.declared one.n g one.prop
            one.stands;
      })

  -- the functions that give first values
  pub starts_first : (f : ℕ) → Contains graph.starts f → FunctionAt graph f IsFirst
  starts_first f has = let (g, at) = place_in graph.starts f has in start_first g f at
