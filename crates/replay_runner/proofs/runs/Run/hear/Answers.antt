use Rattle.std.proofs.Common.{rules, ◌≡◌, ◌+◌, ◌-◌, ◌∙◌, false, true, length, length-set, refl, ap, sym, arith}
use Rattle.replay_runner.specs.Going.{fits_delivery}
use Rattle.replay_runner.proofs.Fitting.{can_hear, first_stamp, hears_fits, reaches, stamp_there}
use Rattle.replay_runner.proofs.Played.{brings_delivery}
use Rattle.replay_runner.proofs.Sound.{goes_messages}
use Rattle.replay_runner.proofs.Stepping.{heard}
use Rattle.replay_runner.proofs.runs.Run.hear.Goals as goal

-- a delivery of a history fits
pub returns-then-not-fits-clause-made : goal.returns-then-not-fits-clause-made
returns-then-not-fits-clause-made g c = λ hears.
    let users : c.len.result ≡ length c.args.self.now.nodes.managers.items = search rules in
    let servers : c.len-2.result ≡ length c.args.self.now.nodes.resources.items = search rules in
    absurd
    (let no : false ≡ true =
    sym c.if-not-fits.true ∙ c.fits.ensures ∙ ap (λ n. fits_delivery n c.len-2.result c.args.delivery.to c.args.delivery.message) users
    ∙ ap (λ n. fits_delivery (length c.args.self.now.nodes.managers.items) n c.args.delivery.to c.args.delivery.message) servers
    ∙ hears_fits g.D.Disk.state c.args.self.now c.args.stamp c.args.delivery hears in
    cc)

pub make-requires : goal.make-requires
make-requires g c =
    let users : c.len.result ≡ length c.args.self.now.nodes.managers.items = search rules in
    let servers : c.len-2.result ≡ length c.args.self.now.nodes.resources.items = search rules in
    record {
      can = can_hear c.args.self.now c.args.stamp c.args.delivery c.requires.can c.requires.sent c.requires.framable
          (sym (ap (λ n. fits_delivery n c.len-2.result c.args.delivery.to c.args.delivery.message) users
          ∙ ap (λ n. fits_delivery (length c.args.self.now.nodes.managers.items) n c.args.delivery.to c.args.delivery.message) servers) ∙ sym c.fits.ensures ∙ c.if-not-fits.false);
    }

pub take-requires-clause-counted : goal.take-requires-clause-counted
take-requires-clause-counted g c = first_stamp c.args.self.now c.args.stamp c.args.delivery c.requires.can c.requires.sent

pub take-requires-clause-there : goal.take-requires-clause-there
take-requires-clause-there g c =
    let there = stamp_there c.args.self.now c.args.stamp c.args.delivery c.requires.can c.requires.sent in
    let marks = c.in_default.ensures.gone.went.marks in
    omega (arith, there, marks)

pub returns-in-Err-clause-made : goal.returns-in-Err-clause-made
returns-in-Err-clause-made g c = λ hears.
    let node = (reaches g.D.Disk.state c.args.self.now c.args.stamp c.args.delivery hears).receiver in
    c.in-Err.ensures.made (brings_delivery g.D.Disk.state c.args.self.now c.args.stamp hears.step c.args.delivery hears.is_found node.0 node.1)

pub returns-clause-made : goal.returns-clause-made
returns-clause-made g c = λ hears.
    let node = (reaches g.D.Disk.state c.args.self.now c.args.stamp c.args.delivery hears).receiver in
    heard g.D.Disk.state c.args.self.now c.make.new.self (record {
      nodes = c.make.new.self.nodes;
      network = c.make.new.self.network;
      places = c.make.new.self.places;
      messages = c.take.new.self;
      clock = c.make.new.self.clock;
    }) c.args.stamp c.args.delivery hears node.0 node.1
    (c.in_default.ensures.made (brings_delivery g.D.Disk.state c.args.self.now c.args.stamp hears.step c.args.delivery hears.is_found node.0 node.1))
    c.take.ensures.taken c.take.ensures.letters c.take.ensures.waiting refl refl refl refl

pub returns-clause-gone : goal.returns-clause-gone
returns-clause-gone g c =
    let went = c.in_default.ensures.gone.went in
    let within = went.within in
    let same = c.take.ensures.waiting in record {
      failed = tt;
      went = goes_messages (length c.args.self.now.nodes.managers.items) (length c.args.self.now.nodes.resources.items) (length c.args.self.now.places.items + 1) c.make.new.self (record {
        nodes = c.make.new.self.nodes;
        network = c.make.new.self.network;
        places = c.make.new.self.places;
        messages = c.take.new.self;
        clock = c.make.new.self.clock;
      }) went refl refl refl (ap (λ v. length v.items) c.take.ensures.letters) (ap length c.take.ensures.taken ∙ length-set c.make.new.self.messages.taken.items (c.args.stamp - 1) true)
          (omega (arith, within, same));
      count = c.make.ensures.gone.count;
    }
