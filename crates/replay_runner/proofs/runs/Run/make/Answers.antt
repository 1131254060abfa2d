use Rattle.std.proofs.Common.{◌+◌, ◌∙◌, ap, length, refl, subst}
use Rattle.replay_runner.specs.Going.{NodesGo}
use Rattle.replay_runner.proofs.Ended.{among_nodes, ends_unentered}
use Rattle.replay_runner.proofs.Sound.{enters_nodes, went_kept}
use Rattle.replay_runner.proofs.Stepping.{ends_unkept, grows_by}
use Rattle.replay_runner.proofs.runs.Run.make.Goals as goal

pub enter-requires : goal.enter-requires
enter-requires g c = record { can = enters_nodes c.args.self.now c.args.place c.args.cause c.args.input c.next_stamp-stamp.result c.next_stamp-stamp.ensures c.requires.can }

pub returns-in-Err-clause-made : goal.returns-in-Err-clause-made
returns-in-Err-clause-made g c = λ b.
    ends_unentered g.D.Disk.state c.args.self.now c.args.place c.args.cause c.args.input b (record {
      nodes = c.enter.new.self;
      network = c.args.self.now.network;
      places = c.args.self.now.places;
      messages = c.args.self.now.messages;
      clock = c.args.self.now.clock;
    }) c.in-Err.fault c.next_stamp-stamp.result c.next_stamp-stamp.ensures
    (c.in-Err.ensures.entered (among_nodes g.D.Disk.state c.args.self.now c.args.place c.args.cause c.args.input b c.next_stamp-stamp.result c.next_stamp-stamp.ensures))

pub returns-in-Ok-keep-clause-made : goal.returns-in-Ok-keep-clause-made
returns-in-Ok-keep-clause-made g c = λ b.
    grows_by g.D.Disk.state c.args.self.now (record {
      nodes = c.enter.new.self;
      network = c.args.self.now.network;
      places = c.args.self.now.places;
      messages = c.args.self.now.messages;
      clock = c.args.self.now.clock;
    }) c.keep.new.self c.args.place c.args.cause c.args.input b c.next_stamp-stamp.result c.next_stamp-stamp.ensures refl refl refl refl c.in-Ok.letter
    (c.in-Ok.ensures.entered (among_nodes g.D.Disk.state c.args.self.now c.args.place c.args.cause c.args.input b c.next_stamp-stamp.result c.next_stamp-stamp.ensures)) (record {
      standing = c.in-Ok-keep.ensures.places;
      sent = c.in-Ok-keep.ensures.letters;
      taken = c.in-Ok-keep.ensures.taken;
      waiting = c.keep.ensures.waiting;
      nodes = c.keep.ensures.nodes;
      network = c.keep.ensures.network;
      clock = c.keep.ensures.clock;
    })

pub returns-in-Err-keep-clause-made : goal.returns-in-Err-keep-clause-made
returns-in-Err-keep-clause-made g c = λ b.
    ends_unkept g.D.Disk.state c.args.self.now (record {
      nodes = c.enter.new.self;
      network = c.args.self.now.network;
      places = c.args.self.now.places;
      messages = c.args.self.now.messages;
      clock = c.args.self.now.clock;
    }) c.keep.new.self c.args.place c.args.cause c.args.input b c.next_stamp-stamp.result c.next_stamp-stamp.ensures refl refl refl refl c.in-Ok.letter
    (c.in-Ok.ensures.entered (among_nodes g.D.Disk.state c.args.self.now c.args.place c.args.cause c.args.input b c.next_stamp-stamp.result c.next_stamp-stamp.ensures)) c.keep.ensures.nodes

pub returns-in-Ok-keep-clause-gone : goal.returns-in-Ok-keep-clause-gone
returns-in-Ok-keep-clause-gone g c = record {
  failed = tt;
  went = went_kept (length c.args.self.now.nodes.managers.items) (length c.args.self.now.nodes.resources.items) (length c.args.self.now.places.items) c.args.self.now (record {
    nodes = c.enter.new.self;
    network = c.args.self.now.network;
    places = c.args.self.now.places;
    messages = c.args.self.now.messages;
    clock = c.args.self.now.clock;
  }) c.keep.new.self c.requires.can.can.goes
      (subst (λ n. NodesGo (length c.args.self.now.nodes.managers.items) (length c.args.self.now.nodes.resources.items) (n + 1) c.args.self.now.clock c.enter.new.self) c.next_stamp-stamp.ensures c.in-Ok.ensures.goes)
      c.args.place c.in-Ok.letter refl refl refl (record {
        standing = c.in-Ok-keep.ensures.places;
        sent = c.in-Ok-keep.ensures.letters;
        taken = c.in-Ok-keep.ensures.taken;
        waiting = c.keep.ensures.waiting;
        nodes = c.keep.ensures.nodes;
        network = c.keep.ensures.network;
        clock = c.keep.ensures.clock;
      });
  count = ap (λ v. length v.resources.items) c.keep.ensures.nodes ∙ c.enter.ensures.count;
}
