use Rattle.std.proofs.Common.{Contains}
use Rattle.sw_region_flow.proofs.OneList.{kind_in_order, one_of_kind}
use Rattle.sw_region_flow.proofs.SomeList.{listed}
use Rattle.sw_region_flow.proofs.laws.lists_have_one_list_of_breaches.Goals as goal

pub returns : goal.returns
returns c = record {
  some = listed;
  one = λ found. one_of_kind (Contains found);
  in_order = λ found. kind_in_order (Contains found);
}
