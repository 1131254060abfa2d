pub mod KeyParts
