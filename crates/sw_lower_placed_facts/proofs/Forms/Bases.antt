-- What stands before a `.`, and what is used by the member after it.
use Rattle.std.proofs.Common.{◌≡◌, ℕ, Bool, Option, Some, ap}
use Rattle.std.proofs.Common.{◌∙◌, subst}
use Rattle.sw_tree.specs.declared.expr.Expr.{Expr}
use Rattle.sw_typing_rules.specs.Expressions.{Judged}
use Rattle.sw_typing_rules.specs.Judges as is
use Rattle.sw_typing_rules.specs.Words.{Setting}
use Rattle.sw_typing_rules.specs.declared.row.Meaning.{Meaning}
use Rattle.sw_typing_rules.specs.declared.row.Meaning.TheVariants as means
use Rattle.sw_isolation_rules.specs.Noting.{see, used_at}
use Rattle.sw_isolation_rules.specs.Uses.{base_of, func_used, meant, part_used}
use Rattle.sw_isolation_rules.specs.declared.uses.Base.{Base}
use Rattle.sw_isolation_rules.specs.declared.uses.Context.{Context}
use Rattle.sw_isolation_rules.specs.declared.uses.Used.{Used}
use Rattle.sw_lower_rules.specs.Carriers.{ExprCode}
use Rattle.sw_lower_rules.specs.Statements.{expr_code}
use Rattle.sw_lower_formed_facts.specs.Forms.{ExprOk}
use Rattle.sw_lower_total_facts.proofs.Expressions.Uses.{used_by}
use Rattle.sw_lower_total_facts.proofs.Trees.Keys.{seen_key}
use Rattle.sw_lower_placed_facts.specs.Claims.{AreOrdinary, ReadPlaced}
use Rattle.sw_lower_placed_facts.specs.Settled.{IsSettled}
use Rattle.sw_lower_placed_facts.specs.Hosts.{IsHost, Program, Host}
use Rattle.sw_lower_placed_facts.proofs.Forms.Selves.{seen_self}
use Rattle.sw_lower_placed_facts.proofs.Placing.Joining.{places_weaker}
use Rattle.sw_lower_placed_facts.proofs.Placing.Kinds.{places_value}
use Rattle.sw_lower_placed_facts.proofs.Uses.Members.{BaseRead}

-- the base by what is noted of it, and by its code
abbrev pub seen_base : Program → Expr → Base
seen_base program base =
    base_of program.tables.answers (see program.tables.world program.tables.answers base).key
    (see program.tables.world program.tables.answers base).is_self

abbrev pub code_base : Program → ExprCode → Base
code_base program code = base_of program.tables.answers code.key code.is_self

pub same_base : (program : Program) (owner : Option ℕ) (setting : Setting) (expected : Bool)
    (base : Expr) (judged : Judged)
    → is.Judges program.tables.world setting expected base judged
    → seen_base program base ≡ code_base program (expr_code program.tables owner base)
same_base program owner setting expected base judged judges =
    ap (λ key. base_of program.tables.answers key
    (see program.tables.world program.tables.answers base).is_self)
    (seen_key program.tables owner base)
    ∙ ap (base_of program.tables.answers (expr_code program.tables owner base).key)
    (seen_self program.tables owner setting expected base judged judges)

-- What is used by a member with a meaning.
module _ (program : Program) (context : Context) (P : Used → Type 0) (at : ℕ) where
  meant_by : (one other : Base) → one ≡ other → (meaning : Meaning)
      → program.tables.answers.meaning_at at ≡ Some meaning
      → P (used_at program.tables.world program.tables.answers context one at)
      → P (meant program.tables.world context.owner other (Some meaning))
  meant_by one other same meaning is used =
      subst (λ base. P (meant program.tables.world context.owner base (Some meaning))) same
      (subst P
      (used_by program.tables.world program.tables.answers context.owner one at meaning is) used)

  -- a property
  pub part_use : (base : Base) (code : ExprCode) → base ≡ code_base program code → (i : ℕ)
      → program.tables.answers.meaning_at at ≡ Some (means.PartOf i)
      → P (used_at program.tables.world program.tables.answers context base at)
      → P (part_used program.tables.world (code_base program code).shape i code.is_self)
  unfolding base_of
  part_use base code same i is used =
      meant_by base (code_base program code) same (means.PartOf i) is used

  -- a method
  pub func_use : (base : Base) (code : ExprCode) → base ≡ code_base program code → (n : ℕ)
      → program.tables.answers.meaning_at at ≡ Some (means.FuncOf n)
      → P (used_at program.tables.world program.tables.answers context base at)
      → P (func_used program.tables.world n code.is_self)
  unfolding base_of
  func_use base code same n is used =
      meant_by base (code_base program code) same (means.FuncOf n) is used

module _ (program : Program) (host : Host) (settled : IsSettled program)
    (is_host : IsHost program host) where
  -- The value of a base has the type of its node.
  pub base_read : (code : ExprCode) (judged : Judged)
      → (ok : ExprOk program.tables program.numbers program.functions host.owner code judged)
      → ReadPlaced program host code
      → BaseRead program host settled is_host (AreOrdinary program code.inside) code ok.ty
  base_read code judged ok read = record {
    typed = ok.typed;
    read = λ s.
        places_weaker s code.read _ _ (places_value code judged ok s _ (read s))
        (λ x t later so. (so.0, so.1.1));
  }
