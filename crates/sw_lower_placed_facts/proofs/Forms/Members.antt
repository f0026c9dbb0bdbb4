-- A member: a property, the result of a task, or a case of an enum.
use Rattle.std.proofs.Common.{◌≡◌, ℕ, ◌<◌, true, List, [], Some}
use Rattle.std.proofs.Common.{length, refl, sym, subst}
use Rattle.std.proofs.lemmas.List.Elements.{All-nil}
use Rattle.std.specs.Prelude.{slice_get}
use Rattle.sw_tree.specs.declared.name.Name.{Name}
use Rattle.sw_types.specs.declared.shape.Shape.{Shape}
use Rattle.sw_types.specs.declared.ty.Ty.TheVariants as types
use Rattle.sw_graph.specs.Kinds.{is_struct}
use Rattle.sw_graph.specs.declared.instr.Instr.TheVariants as instr
use Rattle.sw_graph.specs.declared.instr.Operand.{Operand}
use Rattle.sw_typing_rules.specs.Expressions.{Judged}
use Rattle.sw_typing_rules.specs.Expressions.{noted}
use Rattle.sw_typing_rules.specs.Words.{is_var_part}
use Rattle.sw_typing_rules.specs.Worlds.{part_at}
use Rattle.sw_typing_rules.specs.declared.row.Meaning.{Meaning}
use Rattle.sw_typing_rules.specs.declared.row.Meaning.TheVariants as means
use Rattle.sw_isolation_rules.specs.Noting.{store_notes}
use Rattle.sw_isolation_rules.specs.Uses.{part_used}
use Rattle.sw_isolation_rules.specs.declared.note.Note.{Note}
use Rattle.sw_isolation_rules.specs.declared.uses.Context.{Context}
use Rattle.sw_isolation_rules.specs.declared.uses.Used.{Used}
use Rattle.sw_lower_plans.specs.Run.{Making}
use Rattle.sw_lower_rules.specs.Carriers.{ExprCode}
use Rattle.sw_lower_rules.specs.Expressions.{member_code, member_read, member_write}
use Rattle.sw_lower_rules.specs.Uses.{give, make_value}
use Rattle.sw_lower_formed_facts.specs.Forms.{ExprOk}
use Rattle.sw_lower_placed_facts.specs.Claims.{AreNoted, AreOrdinary, IsOrdinary, ReadPlaced}
use Rattle.sw_lower_placed_facts.specs.Claims.{WritePlaced}
use Rattle.sw_lower_placed_facts.specs.Placing.{PlacesWith}
use Rattle.sw_lower_placed_facts.specs.Settled.{IsSettled}
use Rattle.sw_lower_placed_facts.specs.Hosts.{IsSeenFrom, IsHost, Program, Host}
use Rattle.sw_lower_placed_facts.proofs.Forms.Bases.{base_read, code_base}
use Rattle.sw_lower_placed_facts.proofs.Forms.Values.{Gives, gives_value, goes_read, read_placed}
use Rattle.sw_lower_placed_facts.proofs.Placing.Joining.{places_any, places_then, places_weaker}
use Rattle.sw_lower_placed_facts.proofs.Placing.Asking.{places_typed_then}
use Rattle.sw_lower_placed_facts.proofs.Uses.Calls.{make_value_placed}
use Rattle.sw_lower_placed_facts.proofs.Uses.Members.{read_of_base_placed}
use Rattle.sw_lower_placed_facts.proofs.Uses.Members.{write_of_base_placed}
use Rattle.sw_lower_placed_facts.proofs.Uses.Using.{IsUsed, MadeValue}

module _ (program : Program) (host : Host) (settled : IsSettled program)
    (is_host : IsHost program host) (context : Context) (seen : IsSeenFrom host context)
    (code : ExprCode) (name : Name) where
  abbrev member : ExprCode
  member = member_code program.tables host.owner code name.at name.id

  abbrev Inside : Type 0
  Inside = AreOrdinary program code.inside

  abbrev Means : Meaning → Type 0
  Means meaning = program.tables.answers.meaning_at name.at ≡ Some meaning

  abbrev Uses : Used → Type 0
  Uses used = IsUsed program context name.at used

  -- the code is that of the meaning
  read_by : (meaning : Meaning) → Means meaning
      → ((s : Making) → Gives program host s
      (member_read program.tables host.owner name.at code (Some meaning)) Inside)
      → ReadPlaced program host member
  read_by meaning is gives =
      read_placed program host member refl
      (subst (λ found. (s : Making) → Gives program host s
      (member_read program.tables host.owner name.at code found) Inside) (sym is) gives)

  -- a property
  pub property_read : (i : ℕ) (judged : Judged)
      → ExprOk program.tables program.numbers program.functions host.owner code judged
      → ReadPlaced program host code → Means (means.PartOf i)
      → Uses (part_used program.tables.world (code_base program code).shape i code.is_self)
      → ReadPlaced program host member
  property_read i judged ok read is used =
      read_by (means.PartOf i) is
      (read_of_base_placed program host settled is_host Inside name.at i code ok.ty context seen
      (base_read program host settled is_host code judged ok read) used)

  -- the result of a task
  pub result_read : ReadPlaced program host code → Means means.TaskValue
      → ReadPlaced program host member
  result_read read is =
      read_by means.TaskValue is (λ s.
      places_then s code.read _ (λ x t. Inside) _ (goes_read program host code read s)
      (λ task u later inside.
      places_typed_then program.tables u name.at
      (λ ty. give name.at ty (λ r. instr.Await name.at r task)) _
      (λ ty typed. gives_value program host name.at ty (λ r. instr.Await name.at r task)
      (λ r. refl) (λ r regs. tt) (λ r. tt) Inside inside u)))

  -- a case of an enum
  pub case_read : (k i : ℕ) → code.inside ≡ [] → Means (means.CaseOf k i)
      → ReadPlaced program host member
  case_read k i alone is =
      read_by (means.CaseOf k i) is (λ s.
      places_weaker s (make_value name.at k (Some i) []) MadeValue _
      (make_value_placed program host settled is_host name.at k (Some i) [] s
      (All-nil (λ (x : Operand). x.reg < length s.made.regs)))
      (λ x t later made. (
        made,
        subst (AreOrdinary program) (sym alone)
            (All-nil (IsOrdinary program)),
      )))

  -- an assignment to a property
  pub property_written : (i place : ℕ) (judged : Judged) (inner : List Note)
      → (ok : ExprOk program.tables program.numbers program.functions host.owner code judged)
      → ReadPlaced program host code
      → ((k : ℕ) (shape : Shape) → ok.ty ≡ types.Named k
      → slice_get program.tables.world.shapes k ≡ Some shape → is_struct shape.kind ≡ true
      → WritePlaced program host code)
      → ((k : ℕ) → ok.ty ≡ types.Named k
      → is_var_part (part_at program.tables.world k i) ≡ true)
      → Means (means.PartOf i)
      → AreNoted program (store_notes context place
      (part_used program.tables.world (code_base program code).shape i code.is_self) inner)
      → WritePlaced program host member
  property_written i place judged inner ok read write var is noted x =
      subst (λ found. PlacesWith program host
      (member_write program.tables host.owner name.at code found x) Inside) (sym is)
      (write_of_base_placed program host settled is_host Inside name.at i place code ok.ty inner x
      context seen (base_read program host settled is_host code judged ok read)
      (λ k shape named found struct given s.
      places_any s (code.write given) _ (write k shape named found struct given s)) noted var)
