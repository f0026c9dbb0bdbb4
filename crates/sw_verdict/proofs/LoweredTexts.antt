-- What the phases up to the size of functions find in a text, and the graph of its program.
use Rattle.std.proofs.Common.{ℕ, ◌++◌, ◌⊎◌, List, [], ◌∷◌, subst}
use Rattle.sw_graph.specs.declared.graph.Graph.{Graph}
use Rattle.sw_isolation_table.specs.Known.{answers_of}
use Rattle.sw_decls.specs.declared.signature.AsyncDefault.{AsyncDefault}
use Rattle.sw_isolation_table.proofs.Answering.{answers_are_said}
use Rattle.sw_typing_rules.specs.Worlds.{world_of}
use Rattle.sw_lower_known.specs.Knowledge.{isolation_of}
use Rattle.sw_lower_rules.specs.Bodies.{Lowered}
use Rattle.sw_verdict.specs.Decided.{IsAnalysed, IsSpelledText}
use Rattle.sw_verdict.specs.Phases.{IsGraphOf, Phase, answers_of_program, phases_to_sharing}
use Rattle.sw_verdict.specs.Phases.{phases_to_size}
use Rattle.sw_verdict.specs.Verdict.{Accepts, Breaches, Refuses, later, none}
use Rattle.sw_verdict.specs.declared.judging.Analysed.{Analysed}
use Rattle.sw_verdict.specs.declared.judging.Spelled.{Spelled as Read}
use Rattle.sw_verdict.proofs.Finding.{read_world}
use Rattle.sw_verdict.proofs.GraphsExist.{some_graph}
use Rattle.sw_verdict.proofs.OneLowered.{HasGraph, numbered_bodies}
use Rattle.sw_verdict.proofs.Tables.{isolation_is_said}
use Rattle.sw_verdict.proofs.Verdicts.{none_or_some, some_to_size}

-- where all phases find none, so do the first of them
first_pass : (rule : AsyncDefault) (phases more : List Phase) (text : List ℕ)
    → Breaches rule (phases ++ more) text []
    → Breaches rule phases text []
first_pass rule [] more text found = none text
first_pass rule (phase ∷ phases) more text (later _ _ _ _ passes rest) =
    later phase phases text [] passes (first_pass rule phases more text rest)

pub accepted_to_size : (rule : AsyncDefault) (text : List ℕ) → Accepts rule text
    → Breaches rule phases_to_size text []
accepted_to_size rule text accepts = first_pass rule phases_to_size _ text accepts

-- the same of those up to sharing
pub sharing_to_size : (rule : AsyncDefault) (text : List ℕ)
    → Breaches rule phases_to_sharing text [] → Breaches rule phases_to_size text []
sharing_to_size rule text found = first_pass rule phases_to_size _ text found

pub decided_to_size : (rule : AsyncDefault) (text : List ℕ)
    → Breaches rule phases_to_size text [] ⊎ Refuses rule phases_to_size text
decided_to_size rule text = none_or_some rule phases_to_size text (some_to_size rule text)

pub some_graph_of : (rule : AsyncDefault) (text : List ℕ) → Accepts rule text → (graph : Graph)
    × IsGraphOf rule text graph
some_graph_of rule text accepts = some_graph rule text (accepted_to_size rule text accepts)

-- the graph that was made of a text's program, which was read and analysed
pub made_graph : (rule : AsyncDefault) (text : List ℕ) (read : Read) (found : Analysed)
    (graph : Graph)
    → IsSpelledText text read → IsAnalysed rule read.program.decls found
    → Lowered (world_of found.declared) (answers_of found.typed) (isolation_of found.isolated)
    read.program.decls graph
    → IsGraphOf rule text graph
made_graph rule text read found graph is known lowered =
    let decls = read.program.decls in
    let world = world_of found.declared in
    let numbered = numbered_bodies world (answers_of found.typed) (isolation_of found.isolated)
    decls found.lowering graph known.functions lowered in
    let (whole, names) = subst (HasGraph graph world decls (answers_of_program world decls))
    (isolation_is_said world decls found.typed found.isolated known.typed known.isolated)
    (subst (λ answers. HasGraph graph world decls answers (isolation_of found.isolated))
    (answers_are_said world decls found.typed known.typed) (lowered, numbered)) in
    record {
      decls = decls;
      world = world;
      has_world = read_world rule text read found is known;
      lowered = whole;
      numbered = names;
    }
