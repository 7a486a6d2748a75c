use Rattle.std.proofs.lemmas.Result.{IfOk-weaker}
use Rattle.mem_flat.proofs.Stores.{store_concat, store_name, store_select, store_part}
use Rattle.mem_flat.proofs.spreader.Spreader.store.Goals as goal

pub returns-in-Concat : goal.returns-in-Concat
returns-in-Concat c =
    IfOk-weaker c.concat_store.result _ _ (λ r h. store_concat c.args.self.now.rest.now c.args.left.now _ c.args.right r c.in-Concat.is h) c.concat_store.ensures

pub returns-in-Name : goal.returns-in-Name
returns-in-Name c =
    IfOk-weaker c.part_store.result _ _ (λ r h. store_name c.args.self.now.rest.now c.args.left.now _ c.args.right r c.in-Name.is h) c.part_store.ensures

pub returns-in-Select : goal.returns-in-Select
returns-in-Select c =
    IfOk-weaker c.part_store-in-Select.result _ _ (λ r h. store_select c.args.self.now.rest.now c.args.left.now _ _ c.args.right r c.in-Select.is h) c.part_store-in-Select.ensures

pub returns-in-Part : goal.returns-in-Part
returns-in-Part c =
    IfOk-weaker c.part_store-in-Part.result _ _ (λ r h. store_part c.args.self.now.rest.now c.args.left.now _ _ _ _ c.args.right r c.in-Part.is h) c.part_store-in-Part.ensures
