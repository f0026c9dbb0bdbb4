-- A body that is found by its name is the body at that number, and its function is there.
use Rattle.std.proofs.Common.{◌≡◌, ℕ, List, Some, Contains, sym, ap, subst, ◌∙◌, slice_get}
use Rattle.std.proofs.lemmas.List.Sorted.{Contains-permutation}
use Rattle.std.proofs.lemmas.Option.{same_Some, slice_get-map}
use Rattle.std.specs.Option.{option_map}
use Rattle.sw_tree.specs.declared.decl.Decl.{Decl}
use Rattle.sw_graph.specs.Placed.{FunctionAt}
use Rattle.sw_graph.specs.declared.function.Function.{Function}
use Rattle.sw_graph.specs.declared.graph.Graph.{Graph}
use Rattle.sw_lower_code.specs.Whole.{Body, function_of}
use Rattle.sw_lower_rules.specs.Bodies.{AreNumbered, AreOrdered, functions_of, numbers_of}
use Rattle.sw_lower_rules.specs.Bodies.{program_bodies}
use Rattle.sw_lower_rules.specs.Tables.{Tables, name_of}
use Rattle.sw_typing_facts.proofs.Lists.Listed.{place_in}

-- The body of a program with a name is that at the name's number.
pub body_at : (tables : Tables) (decls : List Decl) (ordered : List Body)
    → AreOrdered tables decls ordered → AreNumbered ordered → (body : Body) (f : ℕ)
    → Contains (program_bodies tables decls) body → numbers_of ordered (name_of body) ≡ Some f
    → slice_get ordered f ≡ Some body
body_at tables decls ordered are numbered body f has found =
    let (k, at) = place_in ordered body
    (Contains-permutation (program_bodies tables decls) ordered body are.bodies has) in
    subst (λ n. slice_get ordered n ≡ Some body)
    (same_Some k f (sym (numbered k body at) ∙ found)) at

-- The function at a number is that of the body at it.
pub function_at : (graph : Graph) (ordered : List Body) → graph.functions ≡ functions_of ordered
    → (f : ℕ) (body : Body) → slice_get ordered f ≡ Some body → (P : Function → Type 0)
    → P (function_of (numbers_of ordered) body) → FunctionAt graph f P
function_at graph ordered are f body at P holds function there =
    subst P (same_Some (function_of (numbers_of ordered) body) function
    (sym (ap (λ all. slice_get all f) are
    ∙ slice_get-map (function_of (numbers_of ordered)) ordered f
    ∙ ap (option_map (function_of (numbers_of ordered))) at) ∙ there)) holds
