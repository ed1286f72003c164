mod Variables
mod Stores
mod Deciding
mod Filling
mod Places
mod Labelling
