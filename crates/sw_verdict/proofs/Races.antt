-- What the phase of races finds.
use Rattle.std.proofs.Common.{◌≡◌, ℕ, ◌++◌, ◌⊎◌, inl, inr, List, [], ◌∷◌, Contains, map, sym}
use Rattle.std.proofs.Common.{subst}
use Rattle.std.specs.List.Sorted.{IsStrictlySortedBy}
use Rattle.sw_breach.specs.Order.{breach_cmp}
use Rattle.sw_breach.specs.declared.Breach.{Breach}
use Rattle.sw_tree.specs.declared.decl.Decl.{Decl}
use Rattle.sw_graph.specs.declared.graph.Graph.{Graph}
use Rattle.sw_decl_words.specs.declared.placed.Placed.{Placed}
use Rattle.sw_isolation_table.specs.Known.{answers_of}
use Rattle.sw_decls.specs.declared.signature.AsyncDefault.{AsyncDefault}
use Rattle.sw_typing_rules.specs.Worlds.{World, world_of}
use Rattle.sw_isolation_table.proofs.Answering.{answers_are_said}
use Rattle.sw_isolation.proofs.SomeMerged.{some_merged}
use Rattle.sw_isolation_rules.proofs.OneMerged.{one_merged}
use Rattle.sw_isolation_rules.specs.Races.{AreRaces, races as all_races}
use Rattle.sw_region_flow.proofs.OneList.{kind_in_order, one_of_kind}
use Rattle.sw_region_flow.proofs.OneSites.{member_cases, member_first, member_later, no_member}
use Rattle.sw_region_flow.proofs.SomeList.{all_with, listed, some_list}
use Rattle.sw_region_flow.specs.Breaches.{AreAll, AreBreaches, IsBreachOf}
use Rattle.sw_verdict.specs.Decided.{IsAnalysed, IsSpelledText}
use Rattle.sw_verdict.specs.Phases.{AreSharedIn, IsGraphOf, IsRaceBreach, RacesFinds}
use Rattle.sw_verdict.specs.Phases.{SharingFinds, answers_of_program, breach_of}
use Rattle.sw_verdict.specs.declared.judging.Analysed.{Analysed}
use Rattle.sw_verdict.specs.declared.judging.Spelled.{Spelled as Read}
use Rattle.sw_verdict.proofs.Finding.{read_world}
use Rattle.sw_verdict.proofs.OneLowered.{one_graph_of}
use Rattle.sw_verdict.proofs.SameProgram.{of_same, same_world}

-- the values that a program in its world shares and may not
abbrev pub Shared : World → List Decl → List Placed → Type 0
Shared world decls shared = AreRaces world (answers_of_program world decls) decls shared

-- they are one list
shared_one : (rule : AsyncDefault) (text : List ℕ) (a b : List Placed) → AreSharedIn rule text a
    → AreSharedIn rule text b → a ≡ b
shared_one rule text a b is_a is_b =
    one_merged (all_races is_b.world (answers_of_program is_b.world is_b.decls) is_b.decls) a b
    (of_same (λ world decls. Shared world decls a)
    (same_world rule text is_a.has_world is_b.has_world) is_a.are) is_b.are

-- a text with a graph has one
some_shared : (rule : AsyncDefault) (text : List ℕ) (graph : Graph) → IsGraphOf rule text graph
    → (shared : List Placed) × AreSharedIn rule text shared
some_shared rule text graph is =
    let (shared, are) =
    some_merged (all_races is.world (answers_of_program is.world is.decls) is.decls) in
    (shared, record { decls = is.decls; world = is.world; has_world = is.has_world; are = are })

pub sharing_one : (rule : AsyncDefault) (text : List ℕ) (a b : List Breach)
    → SharingFinds rule text a → SharingFinds rule text b → a ≡ b
sharing_one rule text a b is_a is_b =
    one_of_kind (Contains (map breach_of is_b.shared)) a b
    (subst (λ shared. AreAll (Contains (map breach_of shared)) a)
    (shared_one rule text is_a.shared is_b.shared is_a.are_shared is_b.are_shared) is_a.are_all)
    is_b.are_all

pub races_one : (rule : AsyncDefault) (text : List ℕ) (a b : List Breach) → RacesFinds rule text a
    → RacesFinds rule text b → a ≡ b
races_one rule text a b is_a is_b =
    one_of_kind (IsRaceBreach is_b.shared is_b.graph) a b
    (subst (λ graph. AreAll (IsRaceBreach is_b.shared graph) a)
    (one_graph_of rule text is_a.graph is_b.graph is_a.of_text is_b.of_text)
    (subst (λ shared. AreAll (IsRaceBreach shared is_a.graph) a)
    (shared_one rule text is_a.shared is_b.shared is_a.are_shared is_b.are_shared) is_a.are_all))
    is_b.are_all

-- a text with a graph has a list of what may not be shared, and one of races
pub some_sharing : (rule : AsyncDefault) (text : List ℕ) (graph : Graph) → IsGraphOf rule text graph
    → (list : List Breach) × SharingFinds rule text list
some_sharing rule text graph is =
    let (shared, are) = some_shared rule text graph is in
    let (list, all) = listed (map breach_of shared) in
    (list, record { shared = shared; are_shared = are; are_all = all })

pub some_races : (rule : AsyncDefault) (text : List ℕ) (graph : Graph) → IsGraphOf rule text graph
    → (list : List Breach) × RacesFinds rule text list
some_races rule text graph is =
    let (shared, are) = some_shared rule text graph is in
    let (found, of_graph) = some_list graph in
    let (list, all) = listed (map breach_of shared ++ found) in (
      list,
      record {
        shared = shared;
        are_shared = are;
        graph = graph;
        of_text = is;
        are_all = all_with (IsBreachOf graph) (map breach_of shared) found list of_graph all;
      },
    )

pub sharing_in_order : (rule : AsyncDefault) (text : List ℕ) (list : List Breach)
    → SharingFinds rule text list
    → IsStrictlySortedBy breach_cmp list
sharing_in_order rule text list is =
    kind_in_order (Contains (map breach_of is.shared)) list is.are_all

pub races_in_order : (rule : AsyncDefault) (text : List ℕ) (list : List Breach)
    → RacesFinds rule text list
    → IsStrictlySortedBy breach_cmp list
races_in_order rule text list is =
    kind_in_order (IsRaceBreach is.shared is.graph) list is.are_all

-- what holds of the codes of values that are shared holds of those of their breaches
pub of_each : (shared : List Placed) (P : ℕ → Type 0)
    → ((placed : Placed) → Contains shared placed → P placed.code)
    → (breach : Breach) → Contains (map breach_of shared) breach → P breach.code
of_each [] P each breach has = absurd (no_member breach has)
of_each (one ∷ shared) P each breach has =
    by (of_each shared P (λ other later. each other (member_later one shared other later)) breach)
    (member_cases (breach_of one) (map breach_of shared) breach has)
  where
    by : (Contains (map breach_of shared) breach → P breach.code)
        → (breach ≡ breach_of one) ⊎ Contains (map breach_of shared) breach → P breach.code
    by among (inl is) =
        subst (λ (b : Breach). P b.code) (sym is) (each one (member_first one shared))
    by among (inr later) = among later

-- what a text's program shares, which was read and analysed
pub found_shared : (rule : AsyncDefault) (text : List ℕ) (read : Read) (found : Analysed)
    (shared : List Placed) → IsSpelledText text read → IsAnalysed rule read.program.decls found
    → AreRaces (world_of found.declared) (answers_of found.typed) read.program.decls shared
    → AreSharedIn rule text shared
found_shared rule text read found shared is known are =
    let decls = read.program.decls in
    let world = world_of found.declared in
    record {
      decls = decls;
      world = world;
      has_world = read_world rule text read found is known;
      are = subst (λ answers. AreRaces world answers decls shared)
          (answers_are_said world decls found.typed known.typed) are;
    }

-- a text that shares nothing and whose graph has no region breach has no race
pub raceless : (rule : AsyncDefault) (text : List ℕ) (graph : Graph) → SharingFinds rule text []
    → IsGraphOf rule text graph → AreBreaches graph [] → RacesFinds rule text []
raceless rule text graph finds of_text none = record {
  shared = finds.shared;
  are_shared = finds.are_shared;
  graph = graph;
  of_text = of_text;
  are_all = record {
    sound = λ breach has. absurd (no_member breach has);
    complete = λ breach is. absurd (neither breach is);
    rising = none.rising;
  };
} where
  neither : (breach : Breach) → IsRaceBreach finds.shared graph breach → ⊥
  neither breach (inl shared) =
      let kept = finds.are_all.complete breach shared in no_member kept.0 kept.1
  neither breach (inr of_graph) =
      let kept = none.complete breach of_graph in no_member kept.0 kept.1
