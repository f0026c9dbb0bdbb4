use Rattle.sw_step.proofs.execute.instr_effect.Goals as goal

pub returns-in-Un : goal.returns-in-Un
returns-in-Un c = rw c.in-Un.is c.unary_effect.ensures

pub returns-in-Bin : goal.returns-in-Bin
returns-in-Bin c = rw c.in-Bin.is c.binary_effect.ensures

pub returns-in-Print : goal.returns-in-Print
returns-in-Print c = rw c.in-Print.is c.print_effect.ensures

pub returns-in-Make : goal.returns-in-Make
returns-in-Make c = rw c.in-Make.is c.make_effect.ensures

pub returns-in-NewObject : goal.returns-in-NewObject
returns-in-NewObject c = rw c.in-NewObject.is c.object_effect.ensures

pub returns-in-NewBox : goal.returns-in-NewBox
returns-in-NewBox c = rw c.in-NewBox.is c.box_effect.ensures

pub returns-in-NewActor : goal.returns-in-NewActor
returns-in-NewActor c = rw c.in-NewActor.is c.actor_effect.ensures

pub returns-in-NewClosure : goal.returns-in-NewClosure
returns-in-NewClosure c = rw c.in-NewClosure.is c.closure_effect.ensures

pub returns-in-Call : goal.returns-in-Call
returns-in-Call c = rw c.in-Call.is c.call_effect.ensures

pub returns-in-CallClosure : goal.returns-in-CallClosure
returns-in-CallClosure c = rw c.in-CallClosure.is c.closure_call_effect.ensures

pub returns-in-NewTask : goal.returns-in-NewTask
returns-in-NewTask c = rw c.in-NewTask.is c.task_effect.ensures

pub returns-in-Await : goal.returns-in-Await
returns-in-Await c = rw c.in-Await.is c.await_effect.ensures
