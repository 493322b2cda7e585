use Rattle.tests_state.proofs.catch_up.caught_up.Goals as goal

pub catch_up_all-requires-after_bounds : goal.catch_up_all-requires-after_bounds
catch_up_all-requires-after_bounds g c κs within = c.is_in_order.ensures.ordered c.if-not-is_in_order.false
