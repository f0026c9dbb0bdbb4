use Rattle.sw_region_flow.proofs.Codes.{have_codes}
use Rattle.sw_region_flow.proofs.OneList.{one_list, list_in_order}
use Rattle.sw_region_flow.proofs.SomeList.{some_list}
use Rattle.sw_region_flow.proofs.laws.graphs_have_one_list_of_breaches.Goals as goal

pub returns : goal.returns
returns c =
    record { some = some_list; one = one_list; codes = have_codes; in_order = list_in_order }
