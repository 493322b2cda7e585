use Rattle.std.proofs.Common.{◌≡◌, ◌∙◌, false, refl, sym, true, true≢false}
use Rattle.steps_handlers.specs.Campaign.{HasMajorities, can_have_majorities}
use Rattle.steps_handlers.proofs.candidate.Candidate.tally.Goals as goal

pub returns-then-is_elected : goal.returns-then-is_elected
returns-then-is_elected g c =
    let has : HasMajorities g.NID.PartialEq.eq c.args.self.now = c.is_elected.ensures.0 c.if-is_elected.true in
    record {
      won = (λ _. has, λ _. refl);
      lost = (λ e. cc, λ p. absurd (p.0 has));
    }

pub returns-then-can_be_elected : goal.returns-then-can_be_elected
returns-then-can_be_elected g c =
    let not : HasMajorities g.NID.PartialEq.eq c.args.self.now → ⊥ =
    λ h. absurd (true≢false (sym (c.is_elected.ensures.1 h) ∙ c.if-is_elected.false)) in
    let can : can_have_majorities g.NID.PartialEq.eq c.args.self.now c.args.refused.now ≡ true =
    sym c.can_be_elected.ensures ∙ c.if-can_be_elected.true in
    record {
      won = (λ e. cc, λ h. absurd (not h));
      lost = (λ e. cc, λ p. absurd (true≢false (sym can ∙ p.1)));
    }

pub returns : goal.returns
returns g c =
    let not : HasMajorities g.NID.PartialEq.eq c.args.self.now → ⊥ =
    λ h. absurd (true≢false (sym (c.is_elected.ensures.1 h) ∙ c.if-is_elected.false)) in
    let cannot : can_have_majorities g.NID.PartialEq.eq c.args.self.now c.args.refused.now ≡ false =
    sym c.can_be_elected.ensures ∙ c.if-can_be_elected.false in
    record {
      won = (λ e. cc, λ h. absurd (not h));
      lost = (λ _. (not, cannot), λ _. refl);
    }
