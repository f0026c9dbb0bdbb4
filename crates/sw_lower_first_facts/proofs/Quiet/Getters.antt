-- A getter among the bodies of a program reads a property, or else it takes nothing.
use Rattle.std.proofs.Common.{◌≡◌, ℕ, ◌+◌, Some, [], true, Contains, ◌⊎◌, inl, inr, sym, subst}
use Rattle.sw_tree.specs.declared.decl.Decl.{Decl}
use Rattle.sw_types.specs.declared.ty.Ty.{Ty}
use Rattle.sw_graph.specs.declared.instr.Last.TheVariants.{Return}
use Rattle.sw_lower_plans.specs.Plan.{Numbers}
use Rattle.sw_lower_code.specs.Code.{close, ◌>>=◌}
use Rattle.sw_lower_code.specs.Whole.{Body}
use Rattle.sw_lower_rules.specs.Bodies.{decl_bodies, part_read}
use Rattle.sw_lower_rules.specs.Tables.{Tables}
use Rattle.sw_lower_formed_facts.proofs.Functions.Takes.{kinds_of}
use Rattle.sw_lower_formed_facts.proofs.Headers.Getters.{getter_in}
use Rattle.sw_lower_first_facts.specs.Quiet.{WritesQuiet}
use Rattle.sw_lower_first_facts.proofs.Quiet.Joining.{writes_close, writes_give, writes_then}

module _ (tables : Tables) (numbers : Numbers) where
  -- the getter of a property reads it
  read_quiet : (key index : ℕ) (ty : Ty)
      → WritesQuiet tables numbers (part_read key index ty >>= λ value. close (Return (Some value)))
  read_quiet key index ty =
      writes_then tables numbers (part_read key index ty) _
      (writes_give tables numbers key ty _ (λ r. tt)) (λ value. writes_close tables numbers _)

  -- A getter that takes something reads a property.
  pub getter_so : (n g : ℕ) (decl : Decl) (body : Body)
      → Contains (decl_bodies tables n g decl) body → body.getter ≡ true
      → WritesQuiet tables numbers body.code ⊎ (kinds_of body ≡ [])
  getter_so n g decl body has is =
      elim (getter_in tables n g decl body has is) [
        | inl of ↦
            let part = of.1 in
            inl (subst (λ (b : Body). WritesQuiet tables numbers b.code) (sym part.is)
            (read_quiet part.prop.word.at (0 + part.place) part.part.ty))
        | inr global ↦ inr (global.takes)
      ]
