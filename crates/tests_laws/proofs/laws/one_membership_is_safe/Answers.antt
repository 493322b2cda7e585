use Rattle.tests_laws.proofs.laws.one_membership_is_safe.Goals as goal

pub returns : goal.returns
returns g c = λ rank configs some h follows.
    c.fixed_members_are_safe.ensures rank _
    (λ a b s t in_s in_t.
    let x = c.quorums_meet.ensures configs s t some in_s in_t in (x.0, x.2, x.3))
    h follows
