-- The codes of region breaches are E701 to E704.
use Rattle.std.proofs.Common.{ℕ, inl, inr, Bool, true, false, Option, Some, None, List}
use Rattle.std.proofs.Common.{[], ◌∷◌, ◌++◌, map, refl, sym, subst, ap, if◌then◌else◌}
use Rattle.std.specs.List.{AllByRecursion}
use Rattle.std.specs.Option.{option_map_or}
use Rattle.std.specs.Prelude.{slice_get}
use Rattle.sw_breach.specs.Codes.{IsCode, text_of, texts}
use Rattle.sw_breach.specs.declared.Breach.{Breach}
use Rattle.sw_breach.specs.declared.codes.TheConstants.{GIVEN_AWAY}
use Rattle.sw_graph.specs.Points.{Point, Middle, End, points_of}
use Rattle.sw_graph.specs.declared.function.Function.{Function}
use Rattle.sw_graph.specs.declared.graph.Graph.{Graph}
use Rattle.sw_graph.specs.declared.instr.Instr.{Instr}
use Rattle.sw_graph.specs.declared.instr.Instr.TheVariants as instr
use Rattle.sw_graph.specs.declared.instr.Last.{Last}
use Rattle.sw_graph.specs.declared.instr.Last.TheVariants as last
use Rattle.sw_graph.specs.declared.instr.Operand.{Operand}
use Rattle.sw_partition.specs.Regions.{Regions}
use Rattle.sw_region_flow.proofs.OneList.{each_breach}
use Rattle.sw_region_flow.specs.Breaches.{IsBreachOf, AreBreaches}
use Rattle.sw_region_flow.specs.Least.{point_ops_at}
use Rattle.sw_region_flow.specs.Walks.{TestFails, FailsAmong}
use Rattle.sw_region_ops.specs.Calls as calls
use Rattle.sw_region_ops.specs.Calls.{is_isolated, free_code, callee_ops}
use Rattle.sw_region_ops.specs.Elements.{element_at}
use Rattle.sw_region_ops.specs.Groups as groups
use Rattle.sw_region_ops.specs.Marks.{sent_arguments, kept_arguments}
use Rattle.sw_region_ops.specs.Setting.{FunctionSetting, setting_of}
use Rattle.sw_region_ops.specs.Table as table
use Rattle.sw_region_ops.specs.declared.op.Op.{Op}
use Rattle.sw_region_ops.specs.declared.op.Op.TheVariants.{Need, Free, Fresh, Put, Join, Give}
use Rattle.sw_types.specs.declared.isolation.CallKind.{CallKind}
use Rattle.sw_types.specs.declared.isolation.CallKind.TheVariants as kind
use Rattle.sw_types.specs.declared.isolation.Iso.{Iso}

-- the codes of tests have texts
given_away_is_code : IsCode GIVEN_AWAY
unfolding text_of texts
given_away_is_code = refl

to_actor_is_code : IsCode 702
unfolding text_of texts
to_actor_is_code = refl

to_task_is_code : IsCode 703
unfolding text_of texts
to_task_is_code = refl

not_disconnected_is_code : IsCode 704
unfolding text_of texts
not_disconnected_is_code = refl

-- a test that wants an element free has a code
abbrev HasCode : Op → Type 0
HasCode (Need x at) = Unit {0}
HasCode (Free x at code) = IsCode code
HasCode (Fresh x) = Unit {0}
HasCode (Put x y) = Unit {0}
HasCode (Join x y) = Unit {0}
HasCode (Give x site) = Unit {0}

abbrev HaveCodes : List Op → Type 0
HaveCodes ops = AllByRecursion HasCode ops

both : (a b : List Op) → HaveCodes a → HaveCodes b → HaveCodes (a ++ b)
both [] b first second = second
both (op ∷ a) b first second = (first.0, both a b first.1 second)

each : {X : Type 0} (f : X → Op) → ((mark : X) → HasCode (f mark)) → (marks : List X)
    → HaveCodes (map f marks)
each f has [] = tt
each f has (mark ∷ marks) = (has mark, each f has marks)

if_ops : (b : Bool) (ops : List Op) → HaveCodes ops → HaveCodes (if b then ops else [])
if_ops true ops all = all
if_ops false ops all = tt

-- the groups
need_each : (marks : List _) → HaveCodes (groups.need_each marks)
need_each marks = each (λ m. Need m.x m.at) (λ m. tt) marks

free_each : (code : ℕ) → IsCode code → (marks : List _) → HaveCodes (groups.free_each code marks)
free_each code is marks = each (λ m. Free m.x m.at code) (λ m. is) marks

give_each : (site : ℕ) (marks : List _) → HaveCodes (groups.give_each site marks)
give_each site marks = each (λ m. Give m.x site) (λ m. tt) marks

join_here : (marks : List _) → HaveCodes (groups.join_here marks)
join_here marks = each (λ m. Join m.x 0) (λ m. tt) marks

join_with : (x : ℕ) (marks : List _) → HaveCodes (groups.join_with x marks)
join_with x marks = each (λ m. Join x m.x) (λ m. tt) marks

send_each : (code site : ℕ) → IsCode code → (marks : List _)
    → HaveCodes (groups.send_each code site marks)
send_each code site is [] = tt
send_each code site is (mark ∷ marks) = (is, (tt, send_each code site is marks))

join_all : (marks : List _) → HaveCodes (groups.join_all marks)
join_all [] = tt
join_all (mark ∷ marks) = join_with mark.x marks

join_to : (r : Option ℕ) (marks : List _) → HaveCodes (groups.join_to r marks)
join_to None marks = tt
join_to (Some r) marks = join_with r marks

fresh : (r : Option ℕ) → HaveCodes (groups.fresh r)
fresh None = tt
fresh (Some r) = (tt, tt)

put_here : (r : Option ℕ) → HaveCodes (groups.put_here r)
put_here None = tt
put_here (Some r) = (tt, tt)

join_result_here : (r : Option ℕ) → HaveCodes (groups.join_result_here r)
join_result_here None = tt
join_result_here (Some r) = (tt, tt)

put_first : (r : Option ℕ) (marks : List _) → HaveCodes (groups.put_first r marks)
put_first None marks = tt
put_first (Some r) [] = (tt, tt)
put_first (Some r) (mark ∷ marks) = (tt, tt)

meet : (marks : List _) → HaveCodes (groups.meet marks)
meet marks = both (groups.need_each marks) (groups.join_all marks) (need_each marks)
    (join_all marks)

keep : (marks : List _) → HaveCodes (groups.keep marks)
keep marks = both (groups.need_each marks) (groups.join_here marks) (need_each marks)
    (join_here marks)

part_with : (code site : ℕ) → IsCode code → (marks : List _)
    → HaveCodes (groups.part_with code site marks)
part_with code site is marks = both (groups.free_each code marks) (groups.give_each site marks)
    (free_each code is marks) (give_each site marks)

take_from : (r : Option ℕ) (marks : List _) → HaveCodes (groups.take_from r marks)
take_from r marks = both (groups.need_each marks) (groups.put_first r marks) (need_each marks)
    (put_first r marks)

make_of : (r : Option ℕ) (marks : List _) → HaveCodes (groups.make_of r marks)
make_of r marks = both (groups.need_each marks ++ groups.fresh r) (groups.join_to r marks)
    (both (groups.need_each marks) (groups.fresh r) (need_each marks) (fresh r))
    (join_to r marks)

-- calls
kind_ops : (k : CallKind) (code site : ℕ) → IsCode code → (marks : List _)
    → HaveCodes (calls.kind_ops k code site marks)
kind_ops kind.Plain code site is marks = meet marks
kind_ops kind.Same code site is marks = keep marks
kind_ops kind.Weak code site is marks = both (groups.free_each code marks) (groups.join_all marks)
    (free_each code is marks) (join_all marks)
kind_ops kind.Strong code site is marks = part_with code site is marks
kind_ops kind.Make code site is marks = part_with code site is marks

kind_result : (k : CallKind) (r : Option ℕ) (marks : List _)
    → HaveCodes (calls.kind_result k r marks)
kind_result kind.Plain r marks = put_first r marks
kind_result kind.Same r marks = put_here r
kind_result kind.Weak r marks = put_first r marks
kind_result kind.Strong r marks = fresh r
kind_result kind.Make r marks = fresh r

result_ops : (sends : Bool) (k : CallKind) (r : Option ℕ) (marks : List _)
    → HaveCodes (calls.result_ops sends k r marks)
result_ops true k r marks = fresh r
result_ops false k r marks = kind_result k r marks

callee : (elements : List (Option ℕ)) (k : CallKind) (code site : ℕ) → IsCode code
    → (r : Option ℕ) (operands : List Operand) (function : Option Function)
    → HaveCodes (callee_ops k code site r elements operands function)
callee elements k code site is r operands None = tt
callee elements k code site is r operands (Some function) =
    let sent = sent_arguments elements function.sending operands in
    let kept = kept_arguments elements function.sending operands in
    both (groups.send_each code site sent ++ calls.kind_ops k code site kept)
    (calls.result_ops function.sends k r kept)
    (both (groups.send_each code site sent) (calls.kind_ops k code site kept)
    (send_each code site is sent) (kind_ops k code site is kept))
    (result_ops function.sends k r kept)

-- what is wrong where an element that is with `Here` is given away
free_has_code : (iso : Iso) → IsCode (free_code iso)
free_has_code iso = by (is_isolated iso)
  where
    by : (b : Bool) → IsCode (if b then 702 else 703)
    by true = to_actor_is_code
    by false = to_task_is_code

-- the table
closure_ops : (isolated : Bool) (r : Option ℕ) (marks : List _)
    → HaveCodes (table.closure_ops isolated r marks)
closure_ops isolated r marks =
    both (groups.make_of r marks) (if isolated then groups.join_result_here r else [])
    (make_of r marks) (if_ops isolated (groups.join_result_here r) (join_result_here r))

task_ops : (inside : Bool) (code site : ℕ) → IsCode code → (marks : List _)
    → HaveCodes (table.task_ops inside code site marks)
task_ops true code site is marks = keep marks
task_ops false code site is marks = part_with code site is marks

return_ops : (sends : Bool) (marks : List _) → HaveCodes (table.return_ops sends marks)
return_ops sends marks =
    both (groups.need_each marks) (if sends then groups.free_each 704 marks else [])
    (need_each marks)
    (if_ops sends (groups.free_each 704 marks) (free_each 704 not_disconnected_is_code marks))

module _ (setting : FunctionSetting) where
  made : (r : ℕ) (operands : List Operand)
      → HaveCodes (groups.make_of (table.result setting r) (table.marks setting operands))
  made r operands = make_of (table.result setting r) (table.marks setting operands)

  copied : (r : ℕ) (operand : Operand)
      → HaveCodes (groups.take_from (table.result setting r) (table.marks setting (operand ∷ [])))
  copied r operand = take_from (table.result setting r) (table.marks setting (operand ∷ []))

  loaded : (element : Option ℕ) (r : ℕ) (o : Operand)
      → HaveCodes (table.load_ops setting element r o)
  loaded None r o = put_here (table.result setting r)
  loaded (Some x) r o = copied r o

  stored : (element : Option ℕ) (o s : Operand) → HaveCodes (table.store_ops setting element o s)
  stored None o s = keep (table.marks setting (s ∷ []))
  stored (Some x) o s = meet (table.marks setting (o ∷ s ∷ []))

  instr_ops : (i : Instr) → HaveCodes (table.instr_ops setting i)
  instr_ops (instr.Const at r v) = tt
  instr_ops (instr.Un at r op s) = tt
  instr_ops (instr.Bin at r op s t) = tt
  instr_ops (instr.Print at r ss) = tt
  instr_ops (instr.Copy at r s) = copied r s
  instr_ops (instr.Field at r s i) = copied r s
  instr_ops (instr.Payload at r s i) = copied r s
  instr_ops (instr.SetField at r i s) = meet (table.marks setting (r ∷ s ∷ []))
  instr_ops (instr.Make at r k tag ss) = made r ss
  instr_ops (instr.NewObject at r k ss) = made r ss
  instr_ops (instr.NewBox at r s) = made r (s ∷ [])
  instr_ops (instr.NewActor at r k ss) = need_each (table.marks setting ss)
  instr_ops (instr.LoadBox at r b) = copied r b
  instr_ops (instr.StoreBox at b s) = meet (table.marks setting (b ∷ s ∷ []))
  instr_ops (instr.LoadProp at r o i) = loaded (element_at setting.elements o.reg) r o
  instr_ops (instr.StoreProp at o i s) = stored (element_at setting.elements o.reg) o s
  instr_ops (instr.LoadGlobal at r g) = put_here (table.result setting r)
  instr_ops (instr.StoreGlobal at g s) = keep (table.marks setting (s ∷ []))
  instr_ops (instr.NewClosure at r f cs) = closure_ops (table.iso_is setting is_isolated f)
      (table.result setting r) (table.marks setting cs)
  instr_ops (instr.Call at r k f ss) =
      callee setting.elements k (free_code setting.body.iso) at (free_has_code setting.body.iso)
      (table.result setting r) ss (slice_get setting.functions f)
  instr_ops (instr.CallClosure at r c ss) =
      both (groups.meet (table.marks setting (c ∷ ss)))
      (groups.put_first (table.result setting r) (table.marks setting (c ∷ ss)))
      (meet (table.marks setting (c ∷ ss)))
      (put_first (table.result setting r) (table.marks setting (c ∷ ss)))
  instr_ops (instr.NewTask at r f cs) =
      task_ops (table.iso_is setting (λ iso. table.shares_actor iso setting.body.iso) f)
      (free_code setting.body.iso) at (free_has_code setting.body.iso) (table.marks setting cs)
  instr_ops (instr.Await at r t) = tt
  instr_ops (instr.Yield at r) = tt

  last_ops : (l : Last) → HaveCodes (table.last_ops setting l)
  last_ops (last.Jump to) = tt
  last_ops (last.Branch s holds fails) = tt
  last_ops (last.Switch s to) = need_each (table.marks setting (s ∷ []))
  last_ops (last.Return None) = tt
  last_ops (last.Return (Some s)) =
      return_ops setting.body.sends (table.marks setting (s ∷ []))

  point_ops : (p : Point) → HaveCodes (table.point_ops setting p)
  point_ops (Middle i) = instr_ops i
  point_ops (End l) = last_ops l

  ops_at : (p : ℕ) → HaveCodes (point_ops_at setting p)
  unfolding point_ops_at
  ops_at p = by (slice_get (points_of setting.body.blocks) p)
    where
      by : (o : Option Point) → HaveCodes (option_map_or (table.point_ops setting) o [])
      by None = tt
      by (Some point) = point_ops point

-- a test that fails has a code
fails_code : (op : Op) (r : Regions) (breach : Breach) → HasCode op → TestFails op r breach
    → IsCode breach.code
fails_code (Need x at) r breach has fails =
    subst IsCode (ap (λ b. b.code) (sym fails.is)) given_away_is_code
fails_code (Free x at code) r breach has (inl given) =
    subst IsCode (ap (λ b. b.code) (sym given.is)) given_away_is_code
fails_code (Free x at code) r breach has (inr wrong) =
    subst IsCode (ap (λ b. b.code) (sym wrong.is)) has
fails_code (Fresh x) r breach has fails = absurd fails
fails_code (Put x y) r breach has fails = absurd fails
fails_code (Join x y) r breach has fails = absurd fails
fails_code (Give x site) r breach has fails = absurd fails

among_code : (ops : List Op) (r : Regions) (breach : Breach) → HaveCodes ops
    → FailsAmong ops r breach → IsCode breach.code
among_code [] r breach have fails = absurd fails
among_code (op ∷ ops) r breach have (inl fails) = fails_code op r breach have.0 fails
among_code (op ∷ ops) r breach have (inr (made, does, later)) =
    among_code ops made breach have.1 later

-- a breach of a graph has the code of a text
pub breach_code : (graph : Graph) (breach : Breach) → IsBreachOf graph breach → IsCode breach.code
breach_code graph breach of = let fails = of.breaks.fails in
    among_code (point_ops_at (setting_of graph of.body) of.breaks.point) fails.copied breach
    (ops_at (setting_of graph of.body) of.breaks.point) fails.fails

-- each breach of a graph has the code of a text
pub have_codes : (graph : Graph) (list : List Breach) → AreBreaches graph list
    → AllByRecursion (λ breach. IsCode breach.code) list
have_codes graph list are = each_breach (λ breach. IsCode breach.code) list
    (λ breach has. breach_code graph breach (are.sound breach has))
